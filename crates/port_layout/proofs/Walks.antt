-- Chains of records in memory: what a walk meets, and what a push and an unlinking leave.
use Rattle.std.proofs.Common.{◌≡◌, ℕ, zero, suc, ◌+◌, ◌-◌, ◌<◌, ◌≤◌, true, false, cond, ◌⊎◌, List, [], ◌∷◌, length, is_some, Some, None, sym, refl, ap, ◌∙◌, subst, inl, inr, arith}
use Rattle.std.proofs.lemmas.Bool.{eq-eqb, ne_eqb, cases_eq, both_ways}
use Rattle.std.proofs.lemmas.Bool.Decides.{nat_tests}
use Rattle.port_layout.specs.Chains.{cell, chain, has, without, holder, found, Spells, Once}

-- What is in a chain.

pub has-head : (r : ℕ) (xs : List ℕ) → has r (r ∷ xs) ≡ true
has-head r xs = grind (arith, nat_tests)

pub has-tail : (r x : ℕ) (xs : List ℕ) → has r xs ≡ true → has r (x ∷ xs) ≡ true
has-tail r x xs h = grind (arith, nat_tests)

pub has_other : (r x : ℕ) (xs : List ℕ) → (x ≡ r → ⊥) → has r (x ∷ xs) ≡ has r xs
has_other r x xs n = grind (arith, nat_tests)

pub has-not-head : (r x : ℕ) (xs : List ℕ) → has r (x ∷ xs) ≡ false → x ≡ r → ⊥
has-not-head r x xs h e = grind (arith, nat_tests)

pub has-apart : (xs : List ℕ) (x y : ℕ) → has x xs ≡ false → has y xs ≡ true → y ≡ x → ⊥
has-apart xs x y f t e = grind arith

-- What is left without a record.

pub without-head : (r x : ℕ) (xs : List ℕ) → x ≡ r → without r (x ∷ xs) ≡ xs
without-head r x xs e = grind (arith, nat_tests)

pub without_other : (r x : ℕ) (xs : List ℕ) → (x ≡ r → ⊥) → without r (x ∷ xs) ≡ x ∷ without r xs
without_other r x xs n = grind (arith, nat_tests)

pub length_without : (r : ℕ) (xs : List ℕ) → length xs ≤ suc (length (without r xs))
length_without r [] = omega arith
length_without r (x ∷ xs) = grind (arith, nat_tests, length_without r xs)

pub has-without : (r y : ℕ) (xs : List ℕ) → has y (without r xs) ≡ true → has y xs ≡ true
has-without r y [] h = h
has-without r y (x ∷ xs) h = grind (arith, nat_tests, has-without r y xs)

pub has-without-other : (r y : ℕ) (xs : List ℕ) → (y ≡ r → ⊥) → has y (without r xs) ≡ has y xs
has-without-other r y [] n = refl
has-without-other r y (x ∷ xs) n = grind (arith, nat_tests, has-without-other r y xs n)

pub has-without-self : (r : ℕ) (xs : List ℕ) → Once xs → has r (without r xs) ≡ false
has-without-self r [] o = refl
has-without-self r (x ∷ xs) o = grind (arith, nat_tests, has-without-self r xs o.1)

pub not-has-without : (r y : ℕ) (xs : List ℕ) → has y xs ≡ false → has y (without r xs) ≡ false
not-has-without r y xs f = grind (arith, has-without r y xs)

pub once-without : (r : ℕ) (xs : List ℕ) → Once xs → Once (without r xs)
once-without r [] o = tt
once-without r (x ∷ xs) o = grind (arith, nat_tests, not-has-without r x xs, once-without r xs o.1)

-- As many numbers from 1 to m as differ are at most m.
pub few : (m : ℕ) (xs : List ℕ) → Once xs → ((r : ℕ) → has r xs ≡ true → (0 < r) × (r ≤ m)) → length xs ≤ m
few m [] o h = omega arith
few zero (x ∷ xs) o h = grind (arith, h x (has-head x xs))
few (suc m) (x ∷ xs) o h =
    let ys : List ℕ = without (suc m) (x ∷ xs) in
    let l : length ys ≤ m = few m ys (once-without (suc m) (x ∷ xs) o) (λ r t.
    let a = h r (has-without (suc m) r (x ∷ xs) t) in
    let n : r ≡ suc m → ⊥ = has-apart ys (suc m) r (has-without-self (suc m) (x ∷ xs) o) t in
    (a.0, omega (arith, a.1))) in
    omega (arith, length_without (suc m) (x ∷ xs))

-- Walks.
module _ (n : ℕ) (w : ℕ → ℕ) where
  pub chain_length : (f c : ℕ) → length (chain n w f c) ≤ f
  chain_length zero c = omega arith
  chain_length (suc f) c = grind (arith, nat_tests, chain_length f (cell n (w c)))

  pub chain-end : (f c : ℕ) → w c ≡ 0 → chain n w f c ≡ []
  chain-end zero c e = refl
  chain-end (suc f) c e = grind (arith, nat_tests)

  pub chain-step : (f c : ℕ) → (w c ≡ 0 → ⊥) → chain n w (suc f) c ≡ w c ∷ chain n w f (cell n (w c))
  chain-step f c d = grind (arith, nat_tests)

  -- A walk meets what the memory spells.
  pub chain-spelled : (f c : ℕ) (rs : List ℕ) → length rs ≤ f → Spells n w c rs → chain n w f c ≡ rs
  chain-spelled f c [] l s = chain-end f c s
  chain-spelled zero c (r ∷ rs) l s = absurd (omega arith)
  chain-spelled (suc f) c (r ∷ rs) l s = grind (arith, chain-step f c, chain-spelled f (cell n r) rs)

  pub spelled-above : (rs : List ℕ) (c : ℕ) → Spells n w c rs → (y : ℕ) → has y rs ≡ true → 0 < y
  spelled-above [] c s y h = cc
  spelled-above (r ∷ rs) c s y h = grind (arith, nat_tests, spelled-above rs (cell n r) s.2 y)

-- Two memories.
module _ (n : ℕ) (w w' : ℕ → ℕ) where
  -- What one spells, the other spells too, from a cell on that holds the same, if the records' cells are as they were.
  pub spells-moved : (rs : List ℕ) (c d : ℕ) → w' d ≡ w c → ((y : ℕ) → has y rs ≡ true → w' (cell n y) ≡ w (cell n y)) → Spells n w c rs → Spells n w' d rs
  spells-moved [] c d e k s = e ∙ s
  spells-moved (r ∷ rs) c d e k s =
      (e ∙ s.0, s.1, spells-moved rs (cell n r) (cell n r) (k r (has-head r rs)) (λ y h. k y (has-tail y r rs h)) s.2)

-- The cell that holds a record is the start, or that of another record of the chain.
pub holder-place : (n r : ℕ) (rs : List ℕ) (c : ℕ) → has r rs ≡ true → (holder n r c rs ≡ c) ⊎ ((y : ℕ) × (has y rs ≡ true) × (holder n r c rs ≡ cell n y) × (y ≡ r → ⊥))
holder-place n r [] c h = inl refl
holder-place n r (x ∷ xs) c h = elim (cases_eq x r) [
  | inl e ↦ inl (grind (arith, nat_tests))
  | inr d ↦
      let q : holder n r c (x ∷ xs) ≡ holder n r (cell n x) xs = grind (arith, nat_tests) in
      elim (holder-place n r xs (cell n x) (sym (has_other r x xs d) ∙ h)) [
        | inl e ↦ inr (x, has-head x xs, q ∙ e, d)
        | inr t ↦ inr (t.0, has-tail t.0 x xs t.1, q ∙ t.2, t.3)
      ]
]

-- A record is unlinked: the cell that holds it takes over its next index.
module _ (n r : ℕ) (w w' : ℕ → ℕ) where
  pub spells-without : (rs : List ℕ) (c p : ℕ) → has r rs ≡ true → Spells n w c rs → Once rs → ((y : ℕ) → has y rs ≡ true → cell n y ≡ c → ⊥) → holder n r c rs ≡ p →
      w' p ≡ w (cell n r) → ((d : ℕ) → (d ≡ p → ⊥) → (d ≡ cell n r → ⊥) → w' d ≡ w d) → Spells n w' c (without r rs)
  spells-without [] c p h s o f q e k = absurd (both_ways false refl h)
  spells-without (x ∷ xs) c p h s o f q e k = elim (cases_eq x r) [
    | inl i ↦
        let pc : p ≡ c = sym q ∙ ap (λ b. cond b c (holder n r (cell n x) xs)) (eq-eqb x r i) in
        let g : w' c ≡ w (cell n x) = ap w' (sym pc) ∙ e ∙ ap (λ z. w (cell n z)) (sym i) in
        let ok : (y : ℕ) → has y xs ≡ true → w' (cell n y) ≡ w (cell n y) = λ y t.
        let y0 : 0 < y = spelled-above n w xs (cell n x) s.2 y t in
        let r0 : 0 < x = s.1 in
        let ne : y ≡ x → ⊥ = has-apart xs x y o.0 t in
        k (cell n y) (λ z. f y (has-tail y x xs t) (z ∙ pc)) (λ z. let u : n + y - 1 ≡ n + x - 1 = z ∙ ap (cell n) (sym i) in ne (omega arith)) in
        subst (Spells n w' c) (sym (without-head r x xs i)) (spells-moved n w w' xs (cell n x) c g ok s.2)
    | inr d ↦
        let t : has r xs ≡ true = sym (has_other r x xs d) ∙ h in
        let q' : holder n r (cell n x) xs ≡ p = sym (ap (λ b. cond b c (holder n r (cell n x) xs)) (ne_eqb x r d)) ∙ q in
        let r0 : 0 < x = s.1 in
        let f' : (y : ℕ) → has y xs ≡ true → cell n y ≡ cell n x → ⊥ = λ y u z.
        let y0 : 0 < y = spelled-above n w xs (cell n x) s.2 y u in
        let ne : y ≡ x → ⊥ = has-apart xs x y o.0 u in
        ne (omega (arith, z)) in
        let cp : c ≡ p → ⊥ = λ z. elim (holder-place n r xs (cell n x) t) [
          | inl a ↦ f x (has-head x xs) (sym a ∙ q' ∙ sym z)
          | inr b ↦ f b.0 (has-tail b.0 x xs b.1) (sym b.2 ∙ q' ∙ sym z)
        ] in
        let g : w' c ≡ x = k c cp (λ z. f r h (sym z)) ∙ s.0 in
        subst (Spells n w' c) (sym (without_other r x xs d)) (g, s.1, spells-without xs (cell n x) p t s.2 o.1 f' q' e k)
  ]

-- What a walk for a record finds, step by step.
module _ (n : ℕ) (w : ℕ → ℕ) (r : ℕ) (r0 : 0 < r) where
  pub found-end : (f c : ℕ) → w c ≡ 0 → found n w f c r ≡ None
  found-end f c e = grind (arith, chain-end n w f c e)

  pub found_here : (f g c : ℕ) → f ≡ suc g → w c ≡ r → found n w f c r ≡ Some c
  found_here f g c u e = grind (arith, nat_tests, chain-step n w g c)

  pub found-step : (f g c : ℕ) → f ≡ suc g → (w c ≡ r → ⊥) → (w c ≡ 0 → ⊥) → found n w f c r ≡ found n w g (cell n (w c)) r
  found-step f g c u e d = grind (arith, nat_tests, chain-step n w g c d)

pub found-has : (n : ℕ) (w : ℕ → ℕ) (f c r : ℕ) → has r (chain n w f c) ≡ true → found n w f c r ≡ Some (holder n r c (chain n w f c))
found-has n w f c r h = grind arith

pub found_some : (n : ℕ) (w : ℕ → ℕ) (f c r : ℕ) → is_some (found n w f c r) ≡ has r (chain n w f c)
found_some n w f c r = grind arith
