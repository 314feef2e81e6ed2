-- Replaying a plan's entries gives the least forest at each moment.
use Rattle.std.proofs.Common.{◌≡◌, ℕ, false, eqb, ◌⊎◌, List, sym, ◌∙◌, inl, inr, arith}
use Rattle.std.proofs.lemmas.Bool.{cases_eq, cases_Bool, cond_both, both_ways}
use Rattle.std.proofs.lemmas.Bool.Decides.{nat_tests}
use Rattle.plans.specs.Plan.{among, Gone, Exchange, Ascending, first_but, entry, without, inserted, exchanged}
use Rattle.plans.proofs.Ascending.{ascending-same, among-without, ascending-without, among-inserted, ascending-inserted, first-or}

-- Where at most one number goes, the first that does not stay is the one.
first-at : (xs ys : List ℕ) → ((j k : ℕ) → Gone xs ys j → Gone xs ys k → j ≡ k) → (k : ℕ)
    → ((first_but xs ys ≡ k) × Gone xs ys k) ⊎ ((first_but xs ys ≡ k → k ≡ 0) × (Gone xs ys k → ⊥))
first-at xs ys one k =
    elim (first-or xs ys) [
      | inl r ↦ inr (λ e. sym e ∙ r.0, λ g. both_ways (among k ys) g.1 (r.1 k g.0))
      | inr r ↦ elim (cases_eq (first_but xs ys) k) [
        | inl e ↦ inl (e, rw e at r)
        | inr n ↦ inr (λ e. absurd (n e), λ g. n (one (first_but xs ys) k r g))
      ]
    ]

module _ (xs ys : List ℕ) (a : Ascending xs) (b : Ascending ys) (none : among 0 xs ≡ false) (none' : among 0 ys ≡ false)
    (z : ℕ) (x : Exchange z xs ys) where
  exchanged-among : (k : ℕ) → among k (exchanged xs (entry xs ys)) ≡ among k ys
  exchanged-among k =
      let l = first_but xs ys in
      let c = first_but ys xs in
      let w = among-without k l xs a in
      let i = among-inserted k c (without l xs) in
      let p = first-at xs ys x.leaves k in
      let q = first-at ys xs x.comes k in
      let u = cases_Bool (among k xs) in
      let v = cases_Bool (among k ys) in
      cond_both (eqb c 0) (without l xs) (inserted c (without l xs)) (λ r. among k r ≡ among k ys)
      (λ e. grind (arith, nat_tests)) (λ e. grind (arith, nat_tests))

  pub replay-one : exchanged xs (entry xs ys) ≡ ys
  replay-one =
      let l = first_but xs ys in
      let c = first_but ys xs in
      ascending-same (exchanged xs (entry xs ys)) ys
      (cond_both (eqb c 0) (without l xs) (inserted c (without l xs)) Ascending (λ _. ascending-without l xs a)
      (λ e. ascending-inserted c (without l xs) (ascending-without l xs a)
      (let w = among-without c l xs a in
      elim (first-or ys xs) [ inl r ↦ absurd (let z = r.0 in grind (arith, nat_tests)) | inr r ↦ let n = r.1 in grind (arith, nat_tests) ])))
      b exchanged-among

  -- An entry other than (0, 0) names z.
  pub entry-names : (entry xs ys ≡ (0, 0) → ⊥) → ((entry xs ys).0 ≡ z) ⊎ ((entry xs ys).1 ≡ z)
  entry-names h =
      elim (first-or xs ys) [
        | inr r ↦ named (first_but xs ys) (inl r)
        | inl r ↦ elim (first-or ys xs) [
          | inr s ↦ named (first_but ys xs) (inr s)
          | inl s ↦ absurd (h (λ i. (r.0 i, s.0 i)))
        ]
      ]
    where
      named : (k : ℕ) → Gone xs ys k ⊎ Gone ys xs k → (first_but xs ys ≡ z) ⊎ (first_but ys xs ≡ z)
      named k g = elim (x.touches k g) [
        | inl r ↦ elim (first-at xs ys x.leaves z) [ inl e ↦ inl e.0 | inr n ↦ absurd (n.1 r) ]
        | inr r ↦ elim (first-at ys xs x.comes z) [ inl e ↦ inr e.0 | inr n ↦ absurd (n.1 r) ]
      ]
