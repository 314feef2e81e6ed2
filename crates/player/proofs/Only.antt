-- The flags of which exactly those of a list are up.
use Rattle.std.proofs.Common.{◌≡◌, ℕ, zero, suc, ◌+◌, ◌-◌, ◌<◌, ◌≤◌, Bool, true, false, not, ◌&&◌, List, [], ◌∷◌, ◌++◌, length, get_or, take, set, None, inl, inr, sym, refl, ap, ◌∙◌, arith}
use mathlib.Core.Bool.{beq}
use Rattle.std.proofs.lemmas.List.{length-append, length-set, get_or_append_left, get_or_at, get_or-set_same, get_or-set_other, ext_get_or, take_more}
use Rattle.std.proofs.lemmas.Bool.{cases_eq, cases_lt, cases_Bool}
use Rattle.std.proofs.lemmas.Bool.Decides.{nat_tests}
use Rattle.fabrics.specs.Meaning.{carries, enable_fault}
use Rattle.player.specs.Plan.{Sheet, starts, unfit}
use Rattle.player.specs.Start.{mem, list_fault}
use Rattle.player.specs.Lay.{only, agree, lay_fault}
use Rattle.player.proofs.Grants.{among_in}
use Rattle.player.proofs.Places.{mem-push}
use Rattle.player.proofs.Walks.{Sound}

pub length-only : (m : ℕ) (xs : List ℕ) → length (only m xs) ≡ m
length-only zero xs = refl
length-only (suc m) xs = omega (arith, length-append (only m xs) (mem (suc m) xs ∷ []), length-only m xs)

pub only_at : (m : ℕ) (xs : List ℕ) (i : ℕ) → i < m → get_or (only m xs) i false ≡ mem (suc i) xs
only_at zero xs i h = absurd (omega arith)
only_at (suc m) xs i h = elim (cases_lt i m) [
  | inl l ↦ get_or_append_left (only m xs) (mem (suc m) xs ∷ []) false i (omega (arith, length-only m xs)) ∙ only_at m xs i l
  | inr g ↦
      let e : m ≡ i = omega arith in
      get_or_at (only m xs) (mem (suc m) xs) [] false i (length-only m xs ∙ e) ∙ ap (λ n. mem (suc n) xs) e
]

pub carries-only : (m : ℕ) (xs : List ℕ) (k : ℕ) → 1 ≤ k → k ≤ m → carries (only m xs) k ≡ mem k xs
carries-only m xs k some most =
    let s : suc (k - 1) ≡ k = omega arith in only_at m xs (k - 1) (omega arith) ∙ ap (λ y. mem y xs) s

-- One link more.
pub only_set : (m : ℕ) (xs : List ℕ) (x : ℕ) → (x ≡ 0 → ⊥) → x ≤ m → set (only m xs) (x - 1) true ≡ only m (xs ++ x ∷ [])
only_set m xs x n h =
    let l : length (set (only m xs) (x - 1) true) ≡ m = length-set (only m xs) (x - 1) true ∙ length-only m xs in
    ext_get_or false (set (only m xs) (x - 1) true) (only m (xs ++ x ∷ []))
    (l ∙ sym (length-only m (xs ++ x ∷ [])))
    (λ i b.
    let j : i < m = rw l at b in
    let new = only_at m (xs ++ x ∷ []) i j ∙ mem-push (suc i) x xs in
    elim (cases_eq i (x - 1)) [
      | inl e ↦
          let set_here = get_or-set_same (only m xs) (x - 1) true false (omega (arith, length-only m xs)) in
          let s : suc i ≡ x = omega arith in
          grind (arith, nat_tests)
      | inr e ↦
          let set_there = get_or-set_other (only m xs) (x - 1) i true false e ∙ only_at m xs i j in
          let s : suc i ≡ x → ⊥ = λ q. e (omega arith) in
          grind (arith, nat_tests)
    ])

pub agree-is : (c d : List Bool) → agree c d ≡ true → c ≡ d
agree-is [] [] e = refl
agree-is [] (y ∷ ys) e = cc
agree-is (x ∷ xs) [] e = cc
agree-is (true ∷ xs) (true ∷ ys) e = ap (λ t. true ∷ t) (agree-is xs ys e)
agree-is (true ∷ xs) (false ∷ ys) e = cc
agree-is (false ∷ xs) (true ∷ ys) e = cc
agree-is (false ∷ xs) (false ∷ ys) e = ap (λ t. false ∷ t) (agree-is xs ys e)

pub agree-self : (c : List Bool) → agree c c ≡ true
agree-self [] = refl
agree-self (true ∷ xs) = agree-self xs
agree-self (false ∷ xs) = agree-self xs

-- One link of the list more enabled.
pub lit-more : (m : ℕ) (xs : List ℕ) (i : ℕ) (c d : List Bool) → i < length xs → Sound m xs i → c ≡ only m (take i xs)
    → d ≡ set c (get_or xs i 0 - 1) true → d ≡ only m (take (i + 1) xs)
lit-more m xs i c d h s e f =
    f ∙ ap (λ t. set t (get_or xs i 0 - 1) true) e
    ∙ only_set m (take i xs) (get_or xs i 0) s.some s.within
    ∙ ap (only m) (sym (take_more xs i 0 h))

-- A fabric enables a link that is not yet in the list.
pub only-enable : (m : ℕ) (xs : List ℕ) (x : ℕ) → (x ≡ 0 → ⊥) → x ≤ m → mem x xs ≡ false → enable_fault (only m xs) x ≡ None
only-enable m xs x n h e =
    let has = among_in (only m xs) x n (omega (arith, length-only m xs)) in
    let off = carries-only m xs x (omega arith) h ∙ e in
    grind arith

-- Whether exactly the listed links carry, link by link.
module _ (m : ℕ) (xs : List ℕ) (c : List Bool) (size : length c ≡ m) where
  pub only-each : ((k : ℕ) → 1 ≤ k → k ≤ m → carries c k ≡ mem k xs) → true ≡ agree c (only m xs)
  only-each each =
      let e : c ≡ only m xs =
      ext_get_or false c (only m xs) (size ∙ sym (length-only m xs))
      (λ i h.
      let s : i < m = omega arith in
      let j : i ≡ suc i - 1 = omega arith in
      ap (λ k. get_or c k false) j ∙ each (suc i) (omega arith) s ∙ sym (only_at m xs i s)) in
      sym (ap (agree c) (sym e) ∙ agree-self c)

  pub only-but : (k : ℕ) → 1 ≤ k → k ≤ m → (carries c k ≡ mem k xs → ⊥) → false ≡ agree c (only m xs)
  only-but k some most n = elim (cases_Bool (agree c (only m xs))) [
    | inl t ↦ absurd (n (ap (λ d. carries d k) (agree-is c (only m xs) t) ∙ carries-only m xs k some most))
    | inr f ↦ sym f
  ]

-- Whether exactly the listed ones of the links before one carry; if not, all links do not agree with the list.
pub record Judged (m : ℕ) (xs : List ℕ) (c : List Bool) (before : ℕ) (so : Bool) : Type 0 where
  pub yes : so ≡ true → (k : ℕ) → 1 ≤ k → k < before → carries c k ≡ mem k xs
  pub no : so ≡ false → false ≡ agree c (only m xs)

pub unlisted : (so on : Bool) → (so && beq on false) ≡ (so && not on)
unlisted so true = refl
unlisted so false = refl

module _ (m : ℕ) (xs : List ℕ) (c : List Bool) (size : length c ≡ m) where
  module _ (k : ℕ) (some : 1 ≤ k) (most : k ≤ m) where
    same : ((i : ℕ) → 1 ≤ i → i < k → carries c i ≡ mem i xs) → carries c k ≡ mem k xs → (i : ℕ) → 1 ≤ i → i < k + 1 → carries c i ≡ mem i xs
    same each here i a b = elim (cases_eq i k) [ inl z ↦ rw z here | inr z ↦ each i a (omega arith) ]

    -- One link more, which carries or not, and is listed or not.
    pub judged-more : (so on listed : Bool) → Judged m xs c k so → on ≡ carries c k → listed ≡ mem k xs → Judged m xs c (k + 1) (so && beq on listed)
    judged-more true true true j e l = record { yes = λ t. same (j.yes refl) (sym e ∙ l); no = λ f. cc }
    judged-more true false false j e l = record { yes = λ t. same (j.yes refl) (sym e ∙ l); no = λ f. cc }
    judged-more true true false j e l = record { yes = λ t. cc; no = λ f. only-but m xs c size k some most (λ q. cc) }
    judged-more true false true j e l = record { yes = λ t. cc; no = λ f. only-but m xs c size k some most (λ q. cc) }
    judged-more false on listed j e l = record { yes = λ t. cc; no = λ f. j.no refl }

  pub judged-all : (so : Bool) → Judged m xs c (m + 1) so → so ≡ agree c (only m xs)
  judged-all true j = only-each m xs c size (λ k a b. j.yes refl k a (omega arith))
  judged-all false j = j.no refl

-- When lay is granted.
module _ (s : Sheet) (c : List Bool) (size : length c ≡ s.m) (fit : unfit s ≡ false) (sound : list_fault s.m [] (starts s) ≡ None) where
  pub lay-blank : agree c (only s.m []) ≡ true → lay_fault s c ≡ None
  lay-blank e = grind (arith, nat_tests)

  pub lay-exact : agree c (only s.m []) ≡ false → agree c (only s.m (starts s)) ≡ true → lay_fault s c ≡ None
  lay-exact e f = grind (arith, nat_tests)
