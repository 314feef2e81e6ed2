use Rattle.std.proofs.Common.{◌≡◌, ℕ, ◌-◌, ◌<◌, get_or}
use Rattle.forests.specs.Heap.{at}
use Rattle.places.specs.Pool.{rank}
use Rattle.places.proofs.places.number.Given as goal

abbrev pub invariant-loop-i : goal.invariant-loop-i
invariant-loop-i g l = record {
  last : l.last ≡ at l.order (l.i-index - 1);
  step : l.step ≡ rank (g.R.Ranking.before l.ranking) (at l.order) (l.i-index - 1);
  numbered : (k : ℕ) → k < l.i-index → get_or l.places (get_or l.order k 0) 0 ≡ rank (g.R.Ranking.before l.ranking) (at l.order) k;
}
