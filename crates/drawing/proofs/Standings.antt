-- The order of links by standing and number, as it is read off a table.
use Rattle.std.proofs.Common.{◌≡◌, ℕ, suc, ◌<◌, Bool, true, false, ◌&&◌, ◌||◌, ltb, List, length, get_or, sym, refl, ap, ◌∙◌, arith}
use Rattle.std.proofs.lemmas.List.{get_or-map}
use Rattle.std.proofs.lemmas.Bool.Decides.{nat_tests}
use Rattle.weights.specs.declared.order.Side.{Side}
use Rattle.weights.specs.declared.order.Side.TheVariants.{Before, Level, After}
use Rattle.weights.specs.declared.standing.Standing.{Standing}
use Rattle.weights.specs.declared.standing.Standing.TheVariants.{Absent}
use Rattle.weights.specs.Order.{stand}
use Rattle.network.specs.declared.types.LinkState.{LinkState}
use Rattle.plans.specs.Places.{value_of}
use Rattle.plans.specs.Network.{is_before, is_level, standing_of, standings, link_before}

-- What a comparison says of the order, where level ones go by number.
abbrev pub says : Side → Bool → Bool
says Before b = true
says Level b = b
says After b = false

says-or : (s : Side) (b : Bool) → (is_before s || (is_level s && b)) ≡ says s b
says-or Before b = refl
says-or Level b = refl
says-or After b = refl

ltb-suc : (i j : ℕ) → ltb (suc i) (suc j) ≡ ltb i j
ltb-suc i j = grind (arith, nat_tests)

pub before-read : {W : Type 0} (side : W → W → Side) (links : List (LinkState W)) (i j : ℕ) (x y : LinkState W) → i < length links → j < length links
    → link_before side links (suc i) (suc j) ≡ says (stand side (standing_of (get_or links i x)) (standing_of (get_or links j y))) (ltb i j)
unfolding value_of
before-read {W} side links i j x y hi hj =
    let f : LinkState W → Standing W = λ l. standing_of l in
    let e : get_or (standings links) i Absent ≡ f (get_or links i x) = get_or-map f links i x Absent hi in
    let d : get_or (standings links) j Absent ≡ f (get_or links j y) = get_or-map f links j y Absent hj in
    let s = stand side (get_or (standings links) i Absent) (get_or (standings links) j Absent) in
    says-or s (ltb (suc i) (suc j)) ∙ ap (says s) (ltb-suc i j)
    ∙ ap (λ (u : Standing W). says (stand side u (get_or (standings links) j Absent)) (ltb i j)) e
    ∙ ap (λ (v : Standing W). says (stand side (f (get_or links i x)) v) (ltb i j)) d

-- The same of what the code compared.
pub before-told : {W : Type 0} (side : W → W → Side) (links : List (LinkState W)) (i j : ℕ) (x y : LinkState W) → i < length links → j < length links
    → (u v : Standing W) (s t : Side) → u ≡ standing_of (get_or links i x) → v ≡ standing_of (get_or links j y) → s ≡ stand side u v → s ≡ t
    → says t (ltb i j) ≡ link_before side links (suc i) (suc j)
before-told {W} side links i j x y hi hj u v s t eu ev es et =
    ap (λ r. says r (ltb i j)) (sym et ∙ es ∙ ap (λ (z : Standing W). stand side z v) eu ∙ ap (λ (z : Standing W). stand side (standing_of (get_or links i x)) z) ev)
    ∙ sym (before-read side links i j x y hi hj)
