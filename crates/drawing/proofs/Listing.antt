-- The numbers of links, sorted.
use Rattle.std.proofs.Common.{◌≡◌, ℕ, cond, ltb, List, [], ◌∷◌, map, length, sym, refl, ap, ◌∙◌, arith}
use Rattle.std.specs.List.Sorted.{IsPermutation, IsNonDecreasing}
use Rattle.std.proofs.lemmas.Bool.{cond_both, le-ltb}
use Rattle.std.proofs.lemmas.Bool.Decides.{nat_tests}
use Rattle.block_records.specs.declared.Link.{Link}
use Rattle.graphs.specs.Graph.{In, here, later}
use Rattle.graphs.specs.Forest.{Distinct, placed, ordered}
use Rattle.graphs.proofs.Orders.{strict-ltb}
use Rattle.plans.specs.Plan.{numbers, inserted}
use Rattle.block_records.specs.Words.{link, link_of, links_in}
use Rattle.forests.proofs.InOrder.{positions-ordered}

abbrev number : Link → ℕ
number e = e.number

-- A link of a number, whatever its ends.
abbrev bare : ℕ → Link
bare k = link k 0 0

placed-inserted : (e : Link) (es : List Link) → map number (placed ltb e es) ≡ inserted e.number (map number es)
unfolding placed inserted
placed-inserted e [] = refl
placed-inserted e (f ∷ es) =
    let i = placed-inserted e es in
    cond_both (ltb e.number f.number) (e ∷ f ∷ es) (f ∷ placed ltb e es)
    (λ l. map number l ≡ cond (ltb e.number f.number) (e.number ∷ f.number ∷ map number es) (f.number ∷ inserted e.number (map number es)))
    (λ t. grind (arith, nat_tests)) (λ t. grind (arith, nat_tests))

-- Sorted numbers depend on the links' numbers alone.
numbers-same : (es fs : List Link) → map number es ≡ map number fs → map number (ordered ltb es) ≡ map number (ordered ltb fs)
unfolding ordered
numbers-same es fs e = sorting es ∙ ap sorted e ∙ sym (sorting fs)
  where
    sorted : List ℕ → List ℕ
    sorted [] = []
    sorted (x ∷ xs) = inserted x (sorted xs)

    sorting : (es : List Link) → map number (ordered ltb es) ≡ sorted (map number es)
    sorting [] = refl
    sorting (e ∷ es) = placed-inserted e (ordered ltb es) ∙ ap (inserted e.number) (sorting es)

bare-back : (xs : List ℕ) → map number (map bare xs) ≡ xs
bare-back [] = refl
bare-back (x ∷ xs) = ap (λ (l : List ℕ). x ∷ l) (bare-back xs)

bare-in : (es : List Link) {f : Link} → In f (map bare (map number es)) → (e : Link) × In e es × (f.number ≡ e.number)
bare-in [] i = elim i [ ]
bare-in (e ∷ es) here = (e, here, refl)
bare-in (e ∷ es) (later i) = let r = bare-in es i in (r.0, later r.1, r.2)

bare-distinct : (es : List Link) → Distinct es → Distinct (map bare (map number es))
bare-distinct [] d = tt
bare-distinct (e ∷ es) d = (λ f i q. let r = bare-in es i in d.0 r.0 r.1 (q ∙ r.2), bare-distinct es d.1)

-- The numbers of a table's links, sorted, are their numbers ascending.
listed : (t : List (List ℕ)) → map (λ w. (link_of w).number) t ≡ map number (links_in t)
listed [] = refl
listed (w ∷ t) = ap (λ (l : List ℕ). (link_of w).number ∷ l) (listed t)

pub numbers-sorted : (t : List (List ℕ)) (xs os : List ℕ) → Distinct (links_in t) → xs ≡ map (λ w. (link_of w).number) t → IsPermutation xs os → length os ≡ length xs
    → IsNonDecreasing os → os ≡ numbers (links_in t)
unfolding numbers
numbers-sorted t xs os d e s n h =
    let es : List Link = links_in t in
    let f : xs ≡ map number es = e ∙ listed t in
    let q = positions-ordered ltb strict-ltb bare xs os (rw f (bare-distinct es d)) s (λ i j l z k. le-ltb _ _ (h i j 0 l (omega arith))) in
    sym (bare-back os) ∙ ap (map number) q ∙ numbers-same (map bare xs) es (bare-back xs ∙ f)
