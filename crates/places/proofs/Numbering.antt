-- Numbering what is sorted.
use Rattle.std.proofs.Common.{◌≡◌, ℕ, zero, suc, ◌+◌, ◌-◌, ◌<◌, ◌≤◌, Bool, true, false, cond, ltb, List, length, get_or, set, sym, refl, ap, ◌∙◌, inl, inr, arith}
use Rattle.std.specs.Cmp.{IsStrictWeakOrder}
use Rattle.std.specs.List.Sorted.{IsPermutation}
use Rattle.std.proofs.lemmas.Bool.{cases_eq, cases_Bool, cases_lt, ltb-false, le-ltb, lt-ltb, cond-true, cond-false}
use Rattle.std.proofs.lemmas.List.{get_or-set_same, get_or-set_other}
use Rattle.std.proofs.ByRecursion.{has_shuffled, has_get_or}
use Rattle.forests.specs.Heap.{Sorted}
use Rattle.forests.proofs.Sinking.{itself}
use Rattle.places.specs.Pool.{rank}

module _ (lt : ℕ → ℕ → Bool) (f : ℕ → ℕ) where
  pub rank-none : rank lt f 0 ≡ 0
  unfolding rank
  rank-none = refl

  pub rank-level : (k : ℕ) → lt (f (k - 1)) (f k) ≡ false → rank lt f k ≡ rank lt f (k - 1)
  unfolding rank
  rank-level zero t = refl
  rank-level (suc k) t =
      let e : suc k - 1 ≡ k = omega arith in
      let t2 : lt (f k) (f (suc k)) ≡ false = rw e at t in
      let c : ◌≡◌ {A = ℕ} (cond (lt (f k) (f (suc k))) 1 0) 0 = cond-false (lt (f k) (f (suc k))) 1 0 t2 in
      rw e (omega arith)

  pub rank-low : (k : ℕ) → rank lt f k ≤ k
  unfolding rank
  rank-low zero = omega arith
  rank-low (suc k) =
      let h = rank-low k in
      elim (cases_Bool (lt (f k) (f (suc k)))) [
        | inl t ↦ let c : ◌≡◌ {A = ℕ} (cond (lt (f k) (f (suc k))) 1 0) 1 = cond-true (lt (f k) (f (suc k))) 1 0 t in omega arith
        | inr t ↦ let c : ◌≡◌ {A = ℕ} (cond (lt (f k) (f (suc k))) 1 0) 0 = cond-false (lt (f k) (f (suc k))) 1 0 t in omega arith
      ]

  pub rank_up : IsStrictWeakOrder lt → (k : ℕ) → lt (f (k - 1)) (f k) ≡ true → rank lt f k ≡ rank lt f (k - 1) + 1
  unfolding rank
  rank_up o zero t = absurd (let h = itself lt o (f 0) in cc)
  rank_up o (suc k) t =
      let e : suc k - 1 ≡ k = omega arith in
      let t2 : lt (f k) (f (suc k)) ≡ true = rw e at t in
      rw e (ap (λ n. rank lt f k + n) (cond-true _ _ _ t2))

  module _ (o : IsStrictWeakOrder lt) (n : ℕ) (so : Sorted lt f 0 n) where
    rank_right : (a b : ℕ) → a ≤ b → b < n → (lt (f a) (f b) ≡ ltb (rank lt f a) (rank lt f b)) × (rank lt f a ≤ rank lt f b)
    rank_right a zero l m =
        let e : a ≡ 0 = omega arith in
        rw e (itself lt o (f 0) ∙ sym (le-ltb _ _ (omega arith)), omega arith)
    rank_right a (suc b) l m =
        elim (cases_eq a (suc b)) [
          | inl e ↦ rw e (itself lt o (f (suc b)) ∙ sym (le-ltb _ _ (omega arith)), omega arith)
          | inr ne ↦
              let h = rank_right a b (omega arith) (omega arith) in
              let s : suc b - 1 ≡ b = omega arith in
              elim (cases_Bool (lt (f b) (f (suc b)))) [
                | inl t ↦
                    let r = rank_up o (suc b) (rw s t) in
                    let q : rank lt f (suc b) ≡ rank lt f b + 1 = rw s at r in
                    let up : lt (f a) (f (suc b)) ≡ true = elim (cases_Bool (lt (f a) (f (suc b)))) [
                      | inl y ↦ y
                      | inr y ↦ let z = o.chain _ _ _ (so a b (omega arith) (omega arith) (omega arith)) y in y ∙ sym z ∙ t
                    ] in
                    (up ∙ sym (lt-ltb _ _ (omega (arith, h.1))), omega (arith, h.1))
                | inr t ↦
                    let r = rank-level (suc b) (rw s t) in
                    let q : rank lt f (suc b) ≡ rank lt f b = rw s at r in
                    let w : lt (f a) (f (suc b)) ≡ lt (f a) (f b) = elim (cases_Bool (lt (f a) (f b))) [
                      | inl y ↦ elim (cases_Bool (lt (f a) (f (suc b)))) [
                        | inl z ↦ z ∙ sym y
                        | inr z ↦ let x = o.chain _ _ _ z (so b (suc b) (omega arith) (omega arith) m) in z ∙ sym x
                      ]
                      | inr y ↦ o.chain _ _ _ y t ∙ sym y
                    ] in
                    (w ∙ h.0 ∙ ap (ltb (rank lt f a)) (sym q), omega (arith, h.1))
              ]
        ]

    -- One more is numbered.
    pub numbered : (ps : List ℕ) (k v : ℕ) → k < n → f k < length ps → v ≡ rank lt f k
        → ((i : ℕ) → i < k → get_or ps (f i) 0 ≡ rank lt f i) → (i : ℕ) → i < k + 1 → get_or (set ps (f k) v) (f i) 0 ≡ rank lt f i
    numbered ps k v l m e h i a =
        elim (cases_eq (f i) (f k)) [
          | inl s ↦ elim (cases_eq i k) [
            | inl u ↦ let x = get_or-set_same ps (f k) v 0 m in cc
            | inr u ↦
                let r = rank_right i k (omega arith) l in
                let z = itself lt o (f k) in
                let y : ltb (rank lt f i) (rank lt f k) ≡ false = sym r.0 ∙ ap (λ x. lt x (f k)) s ∙ z in
                let w : rank lt f i ≡ rank lt f k = omega (arith, ltb-false _ _ y, r.1) in
                let x = get_or-set_same ps (f k) v 0 m in
                cc
          ]
          | inr s ↦ get_or-set_other ps (f k) (f i) v 0 s ∙ h i (elim (cases_eq i k) [ inl u ↦ absurd (s (ap f u)) | inr u ↦ omega arith ])
        ]

    -- The numbers say which of two is before the other.
    pub numbers-tell : (ps : List ℕ) → ((k : ℕ) → k < n → get_or ps (f k) 0 ≡ rank lt f k)
        → (i j a b : ℕ) → a < n → b < n → f a ≡ i → f b ≡ j → ltb (get_or ps i 0) (get_or ps j 0) ≡ lt i j
    numbers-tell ps h i j a b la lb ea eb =
        let ha = h a la in
        let hb = h b lb in
        elim (cases_lt b a) [
          | inl l ↦
              let r = rank_right b a (omega arith) la in
              let s : lt (f a) (f b) ≡ false = so b a (omega arith) (omega arith) la in
              let t : ltb (rank lt f a) (rank lt f b) ≡ false = le-ltb _ _ r.1 in
              cc
          | inr l ↦ let r = (rank_right a b l lb).0 in cc
        ]

-- Each number below n stands somewhere in a shuffle of them.
pub covers : (xs ys : List ℕ) (n : ℕ) → IsPermutation xs ys → length xs ≡ n → ((k : ℕ) → k < length xs → get_or xs k 0 ≡ k)
    → (i : ℕ) → i < n → (k : ℕ) × (k < length ys) × (get_or ys k 0 ≡ i)
covers xs ys n s l own i h =
    let e : get_or xs i 0 ≡ i = own i (omega arith) in
    let x = has_shuffled xs ys (get_or xs i 0) s (has_get_or xs i 0 (omega arith)) in
    (x.0, x.1, x.2 0 ∙ e)
