-- Ascending lists of numbers, and what an entry does to one.
use Rattle.std.proofs.Common.{◌≡◌, ℕ, true, false, not, ◌&&◌, ◌||◌, eqb, ltb, ◌⊎◌, List, [], ◌∷◌, refl, ap₂, inl, inr, arith}
use Rattle.std.proofs.lemmas.Bool.{cases_eq, cond_both}
use Rattle.std.proofs.lemmas.Bool.Decides.{nat_tests}
use Rattle.plans.specs.Plan.{among, Ascending, first_but, without, inserted}

-- Two ascending lists with the same numbers are the same.
pub ascending-same : (xs ys : List ℕ) → Ascending xs → Ascending ys → ((k : ℕ) → among k xs ≡ among k ys) → xs ≡ ys
unfolding among
ascending-same [] [] a b h = refl
ascending-same [] (y ∷ ys) a b h = let k = h y in absurd (grind (arith, nat_tests))
ascending-same (x ∷ xs) [] a b h = let k = h x in absurd (grind (arith, nat_tests))
ascending-same (x ∷ xs) (y ∷ ys) a b h =
    let p = h x in
    let q = h y in
    let u = a.0 y in
    let v = b.0 x in
    let e : x ≡ y = grind (arith, nat_tests) in
    ap₂ (λ (n : ℕ) (l : List ℕ). n ∷ l) e
    (ascending-same xs ys a.1 b.1 (λ k. let r = h k in let s = a.0 k in let t = b.0 k in grind (arith, nat_tests)))

pub among-without : (j k : ℕ) (xs : List ℕ) → Ascending xs → among j (without k xs) ≡ (not (eqb j k) && among j xs)
unfolding among without
among-without j k [] a = grind (arith, nat_tests)
among-without j k (x ∷ xs) a =
    let i = among-without j k xs a.1 in
    let s = a.0 j in
    cond_both (eqb k x) xs (x ∷ without k xs) (λ l. among j l ≡ (not (eqb j k) && (eqb j x || among j xs)))
    (λ e. grind (arith, nat_tests)) (λ e. grind (arith, nat_tests))

pub ascending-without : (k : ℕ) (xs : List ℕ) → Ascending xs → Ascending (without k xs)
unfolding without
ascending-without k [] a = tt
ascending-without k (x ∷ xs) a =
    cond_both (eqb k x) xs (x ∷ without k xs) Ascending (λ _. a.1)
    (λ _. (λ y m. let i = among-without y k xs a.1 in let s = a.0 y in grind (arith, nat_tests), ascending-without k xs a.1))

pub among-inserted : (j k : ℕ) (xs : List ℕ) → among j (inserted k xs) ≡ (eqb j k || among j xs)
unfolding among inserted
among-inserted j k [] = refl
among-inserted j k (x ∷ xs) =
    let i = among-inserted j k xs in
    cond_both (ltb k x) (k ∷ x ∷ xs) (x ∷ inserted k xs) (λ l. among j l ≡ (eqb j k || (eqb j x || among j xs)))
    (λ _. refl) (λ _. grind (arith, nat_tests))

pub ascending-inserted : (k : ℕ) (xs : List ℕ) → Ascending xs → among k xs ≡ false → Ascending (inserted k xs)
unfolding among inserted
ascending-inserted k [] a n = (λ y h. grind (arith, nat_tests), tt)
ascending-inserted k (x ∷ xs) a n =
    cond_both (ltb k x) (k ∷ x ∷ xs) (x ∷ inserted k xs) Ascending
    (λ h. (λ y m. let s = a.0 y in grind (arith, nat_tests), a))
    (λ h. (
      λ y m. let i = among-inserted y k xs in let s = a.0 y in grind (arith, nat_tests),
      ascending-inserted k xs a.1 (grind (arith, nat_tests)),
    ))

-- The first of xs that is not among ys: there is none, or it is such a one.
pub first-or : (xs ys : List ℕ) → ((first_but xs ys ≡ 0) × ((k : ℕ) → among k xs ≡ true → among k ys ≡ true))
    ⊎ ((among (first_but xs ys) xs ≡ true) × (among (first_but xs ys) ys ≡ false))
unfolding among first_but
first-or [] ys = inl (refl, λ k h. grind (arith, nat_tests))
first-or (x ∷ xs) ys =
    cond_both (among x ys) (first_but xs ys) x
    (λ f. ((f ≡ 0) × ((k : ℕ) → (eqb k x || among k xs) ≡ true → among k ys ≡ true)) ⊎ (((eqb f x || among f xs) ≡ true) × (among f ys ≡ false)))
    (λ h. elim (first-or xs ys) [
      | inl r ↦ inl (r.0, λ k m. let s = r.1 k in elim (cases_eq k x) [ inl e ↦ rw e h | inr e ↦ grind (arith, nat_tests) ])
      | inr r ↦ inr (grind (arith, nat_tests), r.1)
    ])
    (λ h. inr (grind (arith, nat_tests), h))
