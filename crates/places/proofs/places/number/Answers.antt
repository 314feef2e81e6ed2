use Rattle.std.proofs.Common.{◌≡◌, ℕ, ◌+◌, ◌-◌, ◌<◌, Bool, length, get_or, sym, refl, ap, ◌∙◌, arith}
use Rattle.forests.specs.Heap.{at}
use Rattle.places.specs.Pool.{rank}
use Rattle.places.proofs.Numbering.{rank-none, rank_up, rank-level, rank-low, numbered}
use Rattle.places.proofs.places.number.Goals as goal
use Rattle.places.proofs.places.number.Goals.{then-precedes, else-precedes}

pub loop-i-init : goal.loop-i-init
loop-i-init g c = record { last = refl; step = sym (rank-none _ _); numbered = λ k h. absurd (omega arith) }

pub overflow_add-step : goal.overflow_add-step
overflow_add-step g c =
    let lt = g.R.Ranking.before c.args.ranking.now in
    omega (arith, c.loop-i.invariant.step, rank-low lt (at c.args.order.now) (c.loop-i.i-index - 1), c.requires.size.1)

pub loop-i-preserved : goal.loop-i-preserved
loop-i-preserved g c =
    let lt : ℕ → ℕ → Bool = g.R.Ranking.before c.args.ranking.now in
    let f : ℕ → ℕ = at c.args.order.now in
    let k = c.loop-i.i-index in
    let i = c.loop-i.invariant in
    let s : k + 1 - 1 ≡ k = omega arith in
    let p : lt (f (k - 1)) (f k) ≡ c.precedes.result = ap (λ x. lt x (f k)) (sym i.last) ∙ sym c.precedes.ensures in
    let v : c.if-precedes.step ≡ rank lt f k = elim c.if-precedes.branch [
      | then-precedes w ↦ w.step-is ∙ ap (λ x. x + 1) i.step ∙ sym (rank_up lt f c.requires.ranks k (p ∙ w.if-precedes.true))
      | else-precedes w ↦ w.step-is ∙ i.step ∙ sym (rank-level lt f k (p ∙ w.if-precedes.false))
    ] in
    let l : get_or c.args.order.now k 0 < length c.loop-i.places =
    omega (arith, c.requires.indexes k c.loop-i-test.true, c.requires.size.0, c.loop-i.auto.places) in
    record {
      last = rw s refl;
      step = rw s v;
      numbered = numbered lt f c.requires.ranks (length c.args.order.now) c.requires.sorted c.loop-i.places k c.if-precedes.step c.loop-i-test.true l v i.numbered;
    }
