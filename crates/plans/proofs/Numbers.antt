-- The ascending numbers of links.
use Rattle.std.proofs.Common.{◌≡◌, ℕ, true, false, eqb, ltb, List, [], ◌∷◌, map, length, sym, refl, ◌∙◌, inl, inr, arith}
use lib.ListN.{length-map}
use Rattle.std.proofs.lemmas.Bool.{or_cases, or_left, or_right, eqb-true, eq-eqb, ltb-true, both_ways, cases_Bool}
use Rattle.block_records.specs.declared.Link.{Link}
use Rattle.graphs.specs.Graph.{In, here, later}
use Rattle.graphs.specs.Forest.{Distinct, ordered}
use Rattle.graphs.specs.Thin.{holds}
use Rattle.graphs.proofs.Walks.{holds-in, held}
use Rattle.graphs.proofs.Trees.{ordered-length}
use Rattle.graphs.proofs.Lists.{Sorted, ordered-in, in-ordered, sorted-ordered}
use Rattle.graphs.proofs.Orders.{strict-ltb}
use Rattle.plans.specs.Plan.{numbers, among, Ascending}

among-map : {f : Link} {es : List Link} → In f es → among f.number (map (λ (e : Link). e.number) es) ≡ true
unfolding among
among-map {f} (here {es}) = or_left (eqb f.number f.number) (among f.number (map (λ (e : Link). e.number) es)) (eq-eqb f.number f.number refl)
among-map {f} (later {f = e} {es} i) = or_right (eqb f.number e.number) (among f.number (map (λ (e : Link). e.number) es)) (among-map i)

map-among : (k : ℕ) (es : List Link) → among k (map (λ (e : Link). e.number) es) ≡ true → (f : Link) × In f es × (f.number ≡ k)
unfolding among
map-among k [] h = absurd (both_ways false refl h)
map-among k (e ∷ es) h =
    elim (or_cases (eqb k e.number) (among k (map (λ (e : Link). e.number) es)) h) [
      | inl q ↦ (e, here, sym (eqb-true k e.number q))
      | inr q ↦ let r = map-among k es q in (r.0, later r.1, r.2)
    ]

ascending-map : (es : List Link) → Sorted ltb es → Ascending (map (λ (e : Link). e.number) es)
ascending-map [] s = tt
ascending-map (e ∷ es) s =
    (λ y h. let r = map-among y es h in let q = ltb-true e.number r.0.number (s.0 r.0 r.1) in omega (arith, q, r.2), ascending-map es s.1)

pub in-numbers : {f : Link} {es : List Link} → In f es → among f.number (numbers es) ≡ true
unfolding numbers
in-numbers {f} {es} i = among-map (in-ordered ltb es f i)

pub numbers-in : (k : ℕ) (es : List Link) → among k (numbers es) ≡ true → (f : Link) × In f es × (f.number ≡ k)
unfolding numbers
numbers-in k es h = let r = map-among k (ordered ltb es) h in (r.0, ordered-in ltb es r.0 r.1, r.2)

-- A number is among those of the links exactly if one of the links has it.
pub among-holds : (k : ℕ) (es : List Link) → among k (numbers es) ≡ holds k es
among-holds k es =
    elim (cases_Bool (holds k es)) [
      | inl h ↦ let r = holds-in k es h in rw r.2 at (in-numbers r.1) ∙ sym h
      | inr h ↦ elim (cases_Bool (among k (numbers es))) [
        | inr u ↦ u ∙ sym h
        | inl u ↦ let r = numbers-in k es u in absurd (both_ways (holds k es) h (held r.1 r.2))
      ]
    ]

-- The ascending numbers are as many as the links.
pub numbers-length : (es : List Link) → length (numbers es) ≡ length es
unfolding numbers
numbers-length es = length-map (ordered ltb es) (λ (e : Link). e.number) ∙ ordered-length ltb es

pub ascending-numbers : (es : List Link) → Distinct es → Ascending (numbers es)
unfolding numbers
ascending-numbers es d = ascending-map (ordered ltb es) (sorted-ordered ltb strict-ltb es d)
