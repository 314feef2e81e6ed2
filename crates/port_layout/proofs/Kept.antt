-- Sound chains stay sound as a record is pushed or unlinked.
use Rattle.std.proofs.Common.{◌≡◌, ℕ, ◌+◌, ◌<◌, ◌≤◌, true, false, ◌⊎◌, List, ◌∷◌, sym, refl, ap, ◌∙◌, subst, inl, inr, arith}
use Rattle.std.proofs.lemmas.Bool.{cases_Bool, cases_eq, both_ways}
use Rattle.port_layout.specs.Chains.{cell, chain, has, without, holder, Spells, Once, Kept, Sound}
use Rattle.port_layout.proofs.Walks.{has-head, has_other, has-not-head, has-apart, has-without, has-without-other, has-without-self, once-without, few, chain-spelled, spelled-above, spells-moved, holder-place, spells-without}

module _ (n m : ℕ) (owner w : ℕ → ℕ) (K : ℕ → List ℕ) (s : Kept n m owner w K) where
  pub above : (v : ℕ) → v < n → (r : ℕ) → has r (K v) ≡ true → 0 < r
  above v h r t = spelled-above n w (K v) v (s.spelled v h) r t

  -- The chains that memory keeps are those that a walk meets.
  pub lists : (v : ℕ) → v < n → chain n w m v ≡ K v
  lists v h = chain-spelled n w m v (K v) (few m (K v) (s.once v h) (λ r t. (above v h r t, (s.own v r h t).0))) (s.spelled v h)

  pub settled : ((r : ℕ) → 0 < r → r ≤ m → owner r < n) → Sound n m owner w
  settled on = record {
    small = s.small;
    spelled = λ v h. subst (Spells n w v) (sym (lists v h)) (s.spelled v h);
    once = λ v h. subst Once (sym (lists v h)) (s.once v h);
    own = λ v r h t. s.own v r h (ap (has r) (sym (lists v h)) ∙ t);
    loose = λ r p l f. s.loose r p l (ap (has r) (sym (lists (owner r) (on r p l))) ∙ f);
  }

-- Record r, in no chain, is put at the front of its node's chain.
module _ (n m : ℕ) (owner w w' : ℕ → ℕ) (K K' : ℕ → List ℕ) (s : Kept n m owner w K) (r : ℕ) (r0 : 0 < r) (rm : r ≤ m) (vn : owner r < n)
    (absent : has r (K (owner r)) ≡ false)
    (at_head : w' (owner r) ≡ r) (at-cell : w' (cell n r) ≡ w (owner r)) (rest : (c : ℕ) → (c ≡ owner r → ⊥) → (c ≡ cell n r → ⊥) → w' c ≡ w c)
    (on : K' (owner r) ≡ r ∷ K (owner r)) (off : (u : ℕ) → (u ≡ owner r → ⊥) → K' u ≡ K u) where
  push-same : (u y : ℕ) → u < n → has y (K u) ≡ true → w' (cell n y) ≡ w (cell n y)
  push-same u y h t =
      let y0 : 0 < y = above n m owner w K s u h y t in
      let ne : y ≡ r → ⊥ = λ e. both_ways (has r (K (owner r))) absent (subst (λ z. has r (K z) ≡ true) (sym (s.own u y h t).1 ∙ ap owner e) (subst (λ z. has z (K u) ≡ true) e t)) in
      rest (cell n y) (λ z. omega (arith, z)) (λ z. ne (omega (arith, z)))

  pub push_kept : Kept n m owner w' K'
  push_kept = record {
    small = λ c h. elim (cases_eq c (owner r)) [
      | inl e ↦ omega (arith, ap w' e ∙ at_head)
      | inr d ↦ elim (cases_eq c (cell n r)) [
        | inl e ↦ let l : owner r < n + m = omega arith in omega (arith, ap w' e ∙ at-cell, s.small (owner r) l)
        | inr b ↦ omega (arith, rest c d b, s.small c h)
      ]
    ];
    spelled = λ v h. elim (cases_eq v (owner r)) [
      | inl e ↦
          let t : Spells n w' (cell n r) (K (owner r)) = spells-moved n w w' (K (owner r)) (owner r) (cell n r) at-cell (λ y t. push-same (owner r) y vn t) (s.spelled (owner r) vn) in
          subst (λ z. Spells n w' z (K' z)) (sym e) (subst (Spells n w' (owner r)) (sym on) (at_head, r0, t))
      | inr d ↦
          let a : w' v ≡ w v = rest v d (λ z. omega (arith, z)) in
          subst (Spells n w' v) (sym (off v d)) (spells-moved n w w' (K v) v v a (λ y t. push-same v y h t) (s.spelled v h))
    ];
    once = λ v h. elim (cases_eq v (owner r)) [
      | inl e ↦ subst (λ z. Once (K' z)) (sym e) (subst Once (sym on) (absent, s.once (owner r) vn))
      | inr d ↦ subst Once (sym (off v d)) (s.once v h)
    ];
    own = λ v y h t. elim (cases_eq v (owner r)) [
      | inl e ↦
          let t' : has y (r ∷ K (owner r)) ≡ true = sym (ap (λ z. has y (K' z)) e ∙ ap (has y) on) ∙ t in
          elim (cases_eq r y) [
            | inl i ↦ (subst (λ z. z ≤ m) i rm, ap owner (sym i) ∙ sym e)
            | inr d ↦ let g = s.own (owner r) y vn (sym (has_other y r (K (owner r)) d) ∙ t') in (g.0, g.1 ∙ sym e)
          ]
      | inr d ↦ s.own v y h (sym (ap (has y) (off v d)) ∙ t)
    ];
    loose = λ y y0 ym f.
        let ne : r ≡ y → ⊥ = λ e. has-not-head r r (K (owner r)) (sym (ap (has r) on) ∙ subst (λ z. has z (K' (owner z)) ≡ false) (sym e) f) refl in
        let same : w' (cell n y) ≡ w (cell n y) = rest (cell n y) (λ z. omega (arith, z)) (λ z. ne (omega (arith, z))) in
        same ∙ s.loose y y0 ym (elim (cases_eq (owner y) (owner r)) [
          | inl e ↦
              let f' : has y (r ∷ K (owner r)) ≡ false = sym (ap (λ z. has y (K' z)) e ∙ ap (has y) on) ∙ f in
              ap (λ z. has y (K z)) e ∙ sym (has_other y r (K (owner r)) ne) ∙ f'
          | inr d ↦ sym (ap (has y) (off (owner y) d)) ∙ f
        ]);
  }

  pub push-has : (y u : ℕ) → (y ≡ r → ⊥) → has y (K' u) ≡ has y (K u)
  push-has y u ne = elim (cases_eq u (owner r)) [
    | inl e ↦ ap (λ z. has y (K' z)) e ∙ ap (has y) on ∙ has_other y r (K (owner r)) (λ i. ne (sym i)) ∙ ap (λ z. has y (K z)) (sym e)
    | inr d ↦ ap (has y) (off u d)
  ]

  pub push-has-it : has r (K' (owner r)) ≡ true
  push-has-it = ap (has r) on ∙ has-head r (K (owner r))

-- The cell that holds a record of a chain.
module _ (n m : ℕ) (owner w : ℕ → ℕ) (K : ℕ → List ℕ) (s : Kept n m owner w K) (r : ℕ) (vn : owner r < n)
    (there : has r (K (owner r)) ≡ true) (p : ℕ) (holds : holder n r (owner r) (K (owner r)) ≡ p) where
  -- The holder is the node's head, or the cell of another record of its chain.
  pub holder-is : (p ≡ owner r) ⊎ ((y : ℕ) × (has y (K (owner r)) ≡ true) × (p ≡ cell n y) × (y ≡ r → ⊥))
  holder-is = elim (holder-place n r (K (owner r)) (owner r) there)
      [ inl e ↦ inl (sym holds ∙ e) | inr t ↦ inr (t.0, t.1, sym holds ∙ t.2, t.3) ]

  pub holder_in : p < n + m
  holder_in = elim holder-is [
    | inl e ↦ omega (arith, e)
    | inr t ↦
        let x0 : 0 < t.0 = above n m owner w K s (owner r) vn t.0 t.1 in
        omega (arith, t.2, (s.own (owner r) t.0 vn t.1).0)
  ]

-- Record r is unlinked from its node's chain.
module _ (n m : ℕ) (owner w w' : ℕ → ℕ) (K K' : ℕ → List ℕ) (s : Kept n m owner w K) (r : ℕ) (r0 : 0 < r) (rm : r ≤ m) (vn : owner r < n)
    (there : has r (K (owner r)) ≡ true) (p : ℕ) (holds : holder n r (owner r) (K (owner r)) ≡ p)
    (at-holder : w' p ≡ w (cell n r)) (at-cell : w' (cell n r) ≡ 0) (rest : (c : ℕ) → (c ≡ p → ⊥) → (c ≡ cell n r → ⊥) → w' c ≡ w c)
    (on : K' (owner r) ≡ without r (K (owner r))) (off : (u : ℕ) → (u ≡ owner r → ⊥) → K' u ≡ K u) where
  -- No cell outside the node's head and its chain's records is changed.
  unlink-cell : (y : ℕ) → 0 < y → has y (K (owner r)) ≡ false → w' (cell n y) ≡ w (cell n y)
  unlink-cell y y0 f =
      rest (cell n y)
      (λ z. elim (holder-is n m owner w K s r vn there p holds) [
        | inl e ↦ omega (arith, z, e)
        | inr t ↦
            let x0 : 0 < t.0 = above n m owner w K s (owner r) vn t.0 t.1 in
            let i : y ≡ t.0 = omega (arith, z, t.2) in
            has-apart (K (owner r)) y t.0 f t.1 (sym i)
      ])
      (λ z. let i : r ≡ y = omega (arith, z) in has-apart (K (owner r)) y r f there i)

  unlink-head : (v : ℕ) → v < n → (v ≡ owner r → ⊥) → w' v ≡ w v
  unlink-head v h d =
      rest v
      (λ z. elim (holder-is n m owner w K s r vn there p holds) [
        | inl e ↦ d (z ∙ e)
        | inr t ↦ let x0 : 0 < t.0 = above n m owner w K s (owner r) vn t.0 t.1 in omega (arith, z, t.2)
      ])
      (λ z. omega (arith, z))

  elsewhere : (v y : ℕ) → v < n → (v ≡ owner r → ⊥) → has y (K v) ≡ true → has y (K (owner r)) ≡ false
  elsewhere v y h d t = elim (cases_Bool (has y (K (owner r))))
      [ inl u ↦ absurd (d (sym (s.own v y h t).1 ∙ (s.own (owner r) y vn u).1)) | inr f ↦ f ]

  pub unlink-kept : Kept n m owner w' K'
  unlink-kept = record {
    small = λ c h. elim (cases_eq c p) [
      | inl e ↦ let l : cell n r < n + m = omega arith in omega (arith, ap w' e ∙ at-holder, s.small (cell n r) l)
      | inr d ↦ elim (cases_eq c (cell n r)) [
        | inl e ↦ omega (arith, ap w' e ∙ at-cell)
        | inr b ↦ omega (arith, rest c d b, s.small c h)
      ]
    ];
    spelled = λ v h. elim (cases_eq v (owner r)) [
      | inl e ↦
          let t : Spells n w' (owner r) (without r (K (owner r))) =
          spells-without n r w w' (K (owner r)) (owner r) p there (s.spelled (owner r) vn) (s.once (owner r) vn)
          (λ y t z. let y0 : 0 < y = above n m owner w K s (owner r) vn y t in omega (arith, z)) holds at-holder rest in
          subst (λ z. Spells n w' z (K' z)) (sym e) (subst (Spells n w' (owner r)) (sym on) t)
      | inr d ↦
          subst (Spells n w' v) (sym (off v d)) (spells-moved n w w' (K v) v v (unlink-head v h d)
          (λ y t. unlink-cell y (above n m owner w K s v h y t) (elsewhere v y h d t)) (s.spelled v h))
    ];
    once = λ v h. elim (cases_eq v (owner r)) [
      | inl e ↦ subst (λ z. Once (K' z)) (sym e) (subst Once (sym on) (once-without r (K (owner r)) (s.once (owner r) vn)))
      | inr d ↦ subst Once (sym (off v d)) (s.once v h)
    ];
    own = λ v y h t. elim (cases_eq v (owner r)) [
      | inl e ↦
          let t' : has y (without r (K (owner r))) ≡ true = sym (ap (λ z. has y (K' z)) e ∙ ap (has y) on) ∙ t in
          let g = s.own (owner r) y vn (has-without r y (K (owner r)) t') in (g.0, g.1 ∙ sym e)
      | inr d ↦ s.own v y h (sym (ap (has y) (off v d)) ∙ t)
    ];
    loose = λ y y0 ym f. elim (cases_eq y r) [
      | inl e ↦ ap (λ z. w' (cell n z)) e ∙ at-cell
      | inr ne ↦
          let g : has y (K (owner y)) ≡ false = elim (cases_eq (owner y) (owner r)) [
            | inl e ↦ ap (λ z. has y (K z)) e ∙ sym (has-without-other r y (K (owner r)) ne) ∙ sym (ap (λ z. has y (K' z)) e ∙ ap (has y) on) ∙ f
            | inr d ↦ sym (ap (has y) (off (owner y) d)) ∙ f
          ] in
          let out : has y (K (owner r)) ≡ false = elim (cases_Bool (has y (K (owner r))))
          [ inl u ↦ absurd (both_ways (has y (K (owner y))) g (ap (λ z. has y (K z)) (s.own (owner r) y vn u).1 ∙ u)) | inr q ↦ q ] in
          unlink-cell y y0 out ∙ s.loose y y0 ym g
    ];
  }

  pub unlink-has : (y u : ℕ) → (y ≡ r → ⊥) → has y (K' u) ≡ has y (K u)
  unlink-has y u ne = elim (cases_eq u (owner r)) [
    | inl e ↦ ap (λ z. has y (K' z)) e ∙ ap (has y) on ∙ has-without-other r y (K (owner r)) ne ∙ ap (λ z. has y (K z)) (sym e)
    | inr d ↦ ap (has y) (off u d)
  ]

  pub unlink-has-it : has r (K' (owner r)) ≡ false
  unlink-has-it = ap (has r) on ∙ has-without-self r (K (owner r)) (s.once (owner r) vn)
