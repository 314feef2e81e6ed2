-- Whether an item is in a list, by its place, by the library's search, and in an ascending list by one look.
use Rattle.std.proofs.Common.{◌≡◌, ℕ, ◌<◌, ◌+◌, ◌≤◌, true, false, eqb, List, [], ◌∷◌, ◌++◌, ◌||◌, length, get_or, take, sym, refl, ap, ◌∙◌, inl, inr, arith}
use Rattle.std.specs.List.{list_any}
use Rattle.std.proofs.lemmas.List.Recursion.{or_at, or_from_places, or_push}
use Rattle.std.proofs.lemmas.Bool.Decides.{nat_tests}
use Rattle.std.proofs.lemmas.List.{length-take-le, get_or-take}
use Rattle.std.proofs.lemmas.Bool.{eq-eqb, ne_eqb, cases_eq, cases_lt, true≢false}
use Rattle.player.specs.Start.{mem, Ascends, Parts}

mem-step : (x y : ℕ) (ys : List ℕ) → mem x (y ∷ ys) ≡ (eqb x y || mem x ys)
mem-step x y ys = grind (arith, nat_tests)

pub mem-place : (x : ℕ) (xs : List ℕ) (j : ℕ) → j < length xs → x ≡ get_or xs j 0 → mem x xs ≡ true
mem-place x xs j h e = or_at (mem x) (eqb x) refl (mem-step x) xs j 0 h (eq-eqb x (get_or xs j 0) e)

pub mem-nowhere : (x : ℕ) (xs : List ℕ) → ((j : ℕ) → j < length xs → x ≡ get_or xs j 0 → ⊥) → mem x xs ≡ false
mem-nowhere x xs n = or_from_places (mem x) (eqb x) refl (mem-step x) xs 0 (λ j h. ne_eqb x (get_or xs j 0) (n j h))

pub mem-push : (y x : ℕ) (xs : List ℕ) → mem y (xs ++ x ∷ []) ≡ (mem y xs || eqb y x)
mem-push y x xs = or_push (mem y) (eqb y) refl (mem-step y) xs x

-- In an ascending list one look tells, and one number further it does so again.
module _ (xs : List ℕ) (at x : ℕ) (p : Parts xs at x) where
  elsewhere : (j : ℕ) → j < length xs → x ≡ get_or xs j 0 → j ≡ at
  elsewhere j h e = elim (cases_lt j at) [
    | inl l ↦ absurd (omega (arith, p.under j l h))
    | inr g ↦ elim (cases_eq j at) [
      | inl s ↦ s
      | inr d ↦ absurd (omega (arith, p.order at j (omega arith) h, p.over at (omega arith) (omega arith)))
    ]
  ]

  pub parts-look : at < length xs → eqb (get_or xs at 0) x ≡ mem x xs
  parts-look h = elim (cases_eq (get_or xs at 0) x) [
    | inl e ↦ eq-eqb (get_or xs at 0) x e ∙ sym (mem-place x xs at h (sym e))
    | inr d ↦ ne_eqb (get_or xs at 0) x d ∙ sym (mem-nowhere x xs (λ j g e. d (ap (λ i. get_or xs i 0) (sym (elsewhere j g e)) ∙ sym e)))
  ]

  pub parts-past : length xs ≤ at → mem x xs ≡ false
  parts-past h = mem-nowhere x xs (λ j g e. let s = elsewhere j g e in omega arith)

  pub parts-step : mem x xs ≡ true → Parts xs (at + 1) (x + 1)
  parts-step e = elim (cases_lt at (length xs)) [
    | inl l ↦ elim (cases_eq (get_or xs at 0) x) [
      | inl s ↦ record {
        order = p.order;
        under = λ j b h. elim (cases_eq j at) [
          | inl z ↦ let q = ap (λ i. get_or xs i 0) z in omega arith
          | inr d ↦ omega (arith, p.under j (omega arith) h)
        ];
        over = λ j b h. omega (arith, p.order at j (omega arith) h);
      }
      | inr d ↦ absurd (true≢false (sym e ∙ sym (parts-look l) ∙ ne_eqb (get_or xs at 0) x d))
    ]
    | inr g ↦ absurd (true≢false (sym e ∙ parts-past g))
  ]

  pub parts-after-miss : mem x xs ≡ false → Parts xs at (x + 1)
  parts-after-miss e = record {
    order = p.order;
    under = λ j b h. omega (arith, p.under j b h);
    over = λ j b h. elim (cases_eq x (get_or xs j 0)) [
      | inl s ↦ absurd (true≢false (sym (mem-place x xs j h s) ∙ e))
      | inr d ↦ omega (arith, p.over j b h)
    ];
  }

-- Before link 1 nothing is below.
pub parts-start : (xs : List ℕ) → Ascends xs → ((j : ℕ) → j < length xs → get_or xs j 0 ≡ 0 → ⊥) → Parts xs 0 1
parts-start xs a n = record {
  order = a;
  under = λ j l h. absurd (omega arith);
  over = λ j l h. elim (cases_eq (get_or xs j 0) 0) [ inl e ↦ absurd (n j h e) | inr d ↦ omega arith ];
}

-- An item of an ascending list is not among those before it.
pub mem_new : (xs : List ℕ) (i : ℕ) → Ascends xs → i < length xs → mem (get_or xs i 0) (take i xs) ≡ false
mem_new xs i a h =
    mem-nowhere (get_or xs i 0) (take i xs) (λ j l e.
    let b : j < i = omega (arith, length-take-le i xs (omega arith)) in omega (arith, get_or-take i xs j 0 b, a j i b h))

-- The library's search for an item.
pub any_mem : (x : ℕ) (xs : List ℕ) → list_any (λ y. eqb y x) xs ≡ mem x xs
any_mem x [] = refl
any_mem x (y ∷ ys) = let i = any_mem x ys in grind (arith, nat_tests)
