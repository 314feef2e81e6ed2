-- The order of links ranks, as sorting by it asks.
use Rattle.std.specs.Prelude.{ℕ, suc, Bool, List}
use Rattle.std.proofs.Common.{inl, inr}
use Rattle.std.specs.Cmp.{IsStrictWeakOrder}
use Rattle.std.proofs.lemmas.Bool.{cases_Bool, both_ways}
use Rattle.weights.specs.declared.order.Side.{Side}
use Rattle.network.specs.declared.types.LinkState.{LinkState}
use Rattle.graphs.specs.Forest.{Strict}
use Rattle.plans.specs.Network.{Sided, standings, by_standing, link_before}
use Rattle.plans.proofs.Orders.{strict-by}
use Rattle.plans.proofs.Standings.{lawful-standing}

-- A strict total order ranks.
pub ranks-strict : (lt : ℕ → ℕ → Bool) → Strict lt → IsStrictWeakOrder lt
ranks-strict lt o = record {
  one_way = λ i j h. elim (cases_Bool (lt j i)) [
    | inr n ↦ n
    | inl t ↦ absurd (both_ways (lt i i) (o.apart i) (o.chain i j i h t))
  ];
  chain = λ i j k h l. elim (cases_Bool (lt i k)) [
    | inr n ↦ n
    | inl t ↦ elim (o.total i j) [
      | inl y ↦ absurd (both_ways (lt i j) h y)
      | inr (inl e) ↦ absurd (both_ways (lt j k) l (rw e at t))
      | inr (inr y) ↦ absurd (both_ways (lt j k) l (o.chain j i k y t))
    ]
  ];
}

-- So does one of the numbers one higher.
pub ranks-suc : (lt : ℕ → ℕ → Bool) → IsStrictWeakOrder lt → IsStrictWeakOrder (λ i j. lt (suc i) (suc j))
ranks-suc lt r = record {
  one_way = λ i j h. r.one_way (suc i) (suc j) h;
  chain = λ i j k h l. r.chain (suc i) (suc j) (suc k) h l;
}

-- The order of links is a strict total one.
pub strict-links : {W : Type 0} (side : W → W → Side) → Sided side → (links : List (LinkState W)) → Strict (link_before side links)
strict-links side laws links = strict-by (by_standing side) (lawful-standing side laws) (standings links)

pub ranks-links : {W : Type 0} (side : W → W → Side) → Sided side → (links : List (LinkState W)) → IsStrictWeakOrder (λ i j. link_before side links (suc i) (suc j))
ranks-links side laws links = ranks-suc (link_before side links) (ranks-strict (link_before side links) (strict-links side laws links))
