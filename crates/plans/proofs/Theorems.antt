-- The statements, proved.
use Rattle.std.proofs.Common.{ℕ, suc, ◌+◌, ◌*◌, List, length, get_or, sym, ap, ◌∙◌, ap₂, inl, inr, arith}
use Rattle.weights.specs.declared.order.Side.{Side}
use Rattle.graphs.specs.Thin.{Block}
use Rattle.graphs.specs.Thinning.{merges}
use Rattle.plans.specs.Places.{before_by, table_at}
use Rattle.plans.specs.Plan.{replayed, tree_by}
use Rattle.plans.specs.Work.{named, doublings}
use Rattle.plans.specs.Network.{Sided, graph_of, standings, by_standing, changed_by, links_at, move_of, moves_of, plan}
use Rattle.plans.specs.Theorems.{none, PlansReplay, BlocksHalve, WorkBounded}
use Rattle.plans.proofs.Powers.{doublings-reach, doublings-least}
use Rattle.plans.proofs.Halves.{entries-split-by}
use Rattle.plans.proofs.Kept.{keeps-thinned-by, small-thinned-by}
use Rattle.plans.proofs.Work.{batch-none-by, work-bound}
use Rattle.plans.proofs.Moves.{move-exchanges, entries-length, plan-replayed, plan-pairs, plan-names, table-next}
use Rattle.plans.proofs.Standings.{lawful-standing, graph-length, graph-numbers, graph-distinct, standings-then, moves-length, moves-link}
use Rattle.plans.proofs.Present.{whole-tree}

pub plans-replay : {W : Type 0} (side : W → W → Side) → Sided side → PlansReplay side
unfolding changed_by
plans-replay {W} side o n ends w links batch =
    let s = by_standing side in
    let l = lawful-standing side o in
    let es = graph_of ends in
    let d = graph-distinct 1 ends in
    let m = moves_of links batch in
    let k = moves-length links batch in
    record {
      many = entries-length s es (standings links) m ∙ k;
      pairs = λ t h. plan-pairs s l es d (λ e i. (graph-numbers 1 ends e i).0) (standings links) m t none (omega (arith, k));
      names = λ t c h x.
          let q = moves-link links batch t (move_of links c) c h in
          elim (plan-names s l es d (λ e i. (graph-numbers 1 ends e i).0) (standings links) m t none (move_of links c) (omega (arith, k)) x)
          [ inl e ↦ inl (e ∙ q) | inr e ↦ inr (e ∙ q) ];
      moments = λ a t.
          ap (λ (T : List ℕ). replayed T (plan side ends links batch) t) (sym (whole-tree side o ends n w links (a 0)))
          ∙ plan-replayed s l es d (λ e i. (graph-numbers 1 ends e i).0) (standings links) m t
          ∙ ap (λ T. tree_by s T es) (standings-then links batch t)
          ∙ whole-tree side o ends n w (links_at links batch t) (a t);
      one = λ a t c h.
          let x = table-next (standings links) m t (move_of links c) (omega (arith, k)) in
          rw (
            ← (whole-tree side o ends n w (links_at links batch t) (a t)),
            ← (whole-tree side o ends n w (links_at links batch (suc t)) (a (suc t))),
            ← (standings-then links batch (suc t)),
            x,
            ← (standings-then links batch t),
            ← (moves-link links batch t (move_of links c) c h),
          )
          (move-exchanges s l es d (table_at (standings links) m t) (get_or m t (move_of links c)));
    }

pub work-bounded : {W : Type 0} (side : W → W → Side) → Sided side → WorkBounded side
unfolding moves_of
work-bounded side o n ends links batch =
    let m = graph-length 1 ends in
    let k = moves-length links batch in
    let g : Block = record { nodes = n; links = graph_of ends } in
    record {
      exponent = record { reaches = doublings-reach (length ends); least = doublings-least (length ends) };
      bound = omega (
        arith,
        work-bound (by_standing side) (lawful-standing side o) g (graph-distinct 1 ends) (standings links) (moves_of links batch),
        ap₂ (λ (x y : ℕ). x + y + 4 * y * doublings x) m k,
      );
      idle = batch-none-by (by_standing side) 0 (standings links) g;
    }

pub blocks-halve : {W : Type 0} (side : W → W → Side) → Sided side → BlocksHalve side
blocks-halve side o table g d cs =
    let s = by_standing side in
    let l = lawful-standing side o in
    record {
      same = entries-split-by s table cs l g d (merges (named cs) (before_by s table) g) (keeps-thinned-by s l table cs g d);
      few = (small-thinned-by s l table cs g d).0;
    }
