-- Standings rank, as sorting a pool by them asks.
use Rattle.std.specs.Prelude.{List, slice_index_or, ◌||◌}
use Rattle.std.proofs.Common.{inl, inr}
use Rattle.std.specs.Cmp.{IsStrictWeakOrder}
use Rattle.std.proofs.lemmas.Bool.{cases_Bool, both_ways, or_from}
use Rattle.weights.specs.declared.order.Side.{Side}
use Rattle.weights.specs.declared.standing.Standing.{Standing}
use Rattle.weights.specs.declared.standing.Standing.TheVariants.{Absent}
use Rattle.plans.specs.Network.{Sided}
use Rattle.plans.proofs.Standings.{lawful-standing}
use Rattle.places.specs.Pool.{stands_before}

pub ranks-standings : {W : Type 0} (side : W → W → Side) → Sided side → (ss : List (Standing W)) → IsStrictWeakOrder (stands_before side ss)
ranks-standings side laws ss =
    let o = lawful-standing side laws in
    record {
      one_way = λ i j h. o.opposed (slice_index_or ss i Absent) (slice_index_or ss j Absent) h;
      chain = λ i j k h l. elim (cases_Bool (stands_before side ss i k)) [
        | inr n ↦ n
        | inl t ↦ absurd (both_ways (stands_before side ss i j || stands_before side ss j k) (or_from _ _ h l)
            (o.between (slice_index_or ss i Absent) (slice_index_or ss j Absent) (slice_index_or ss k Absent) t))
      ];
    }
