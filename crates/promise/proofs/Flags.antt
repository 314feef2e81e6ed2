-- The flags of a list of links, and flags that differ by an exchange.
use Rattle.std.proofs.Common.{◌≡◌, ℕ, zero, suc, ◌-◌, ◌<◌, ◌≤◌, Bool, true, false, cond, eqb, List, [], ◌∷◌, length, get_or, set, sym, refl, ap, ◌∙◌, inl, inr, arith}
use Rattle.std.proofs.lemmas.List.{length-set, get_or-set_same, get_or-set_other, get_or_past, ext_get_or}
use Rattle.std.proofs.lemmas.Bool.{cases_eq, cases_lt, cases_Bool, cond_both, both_ways}
use Rattle.std.proofs.lemmas.Bool.Decides.{nat_tests}
use Rattle.fabrics.specs.Meaning.{carries}
use Rattle.plans.specs.Plan.{among, Gone, Exchange, first_but}
use Rattle.plans.proofs.Ascending.{first-or}
use Rattle.player.specs.Start.{mem}
use Rattle.player.specs.Lay.{only}
use Rattle.player.specs.Moves.{dimmed, lit}
use Rattle.promise.specs.Undo.{Exchanged}
use Rattle.player.proofs.Only.{length-only, carries-only}

mem-among : (k : ℕ) (xs : List ℕ) → mem k xs ≡ among k xs
unfolding among
mem-among k [] = refl
mem-among k (x ∷ xs) = let i = mem-among k xs in grind (arith, nat_tests)

-- Whether link k carries, if exactly the listed ones do.
pub flag : (m : ℕ) (xs : List ℕ) (k : ℕ) → 1 ≤ k → k ≤ m → carries (only m xs) k ≡ among k xs
flag m xs k h l = carries-only m xs k h l ∙ mem-among k xs

past : (m : ℕ) (xs : List ℕ) (k : ℕ) → m < k → carries (only m xs) k ≡ false
past m xs k h = get_or_past (only m xs) (k - 1) false (omega (arith, length-only m xs))

-- Two lists of which one goes over into the other by at most one number out and one in, as flags.
module _ (m : ℕ) (xs ys : List ℕ)
    (kx : (k : ℕ) → among k xs ≡ true → (1 ≤ k) × (k ≤ m)) (ky : (k : ℕ) → among k ys ≡ true → (1 ≤ k) × (k ≤ m)) where
  leaving : (first_but xs ys ≡ 0 → ⊥) → (carries (only m xs) (first_but xs ys) ≡ true) × (carries (only m ys) (first_but xs ys) ≡ false)
  leaving n = elim (first-or xs ys) [
    | inl r ↦ absurd (n r.0)
    | inr r ↦
        let b = kx (first_but xs ys) r.0 in
        (flag m xs (first_but xs ys) b.0 b.1 ∙ r.0, flag m ys (first_but xs ys) b.0 b.1 ∙ r.1)
  ]

  gone-first : ((j k : ℕ) → Gone xs ys j → Gone xs ys k → j ≡ k) → (k : ℕ) → Gone xs ys k → k ≡ first_but xs ys
  gone-first one k g = elim (first-or xs ys) [
    | inl r ↦ absurd (both_ways (among k ys) g.1 (r.1 k g.0))
    | inr r ↦ one k (first_but xs ys) g r
  ]

pub flags-exchanged : (m : ℕ) (xs ys : List ℕ)
    → ((k : ℕ) → among k xs ≡ true → (1 ≤ k) × (k ≤ m)) → ((k : ℕ) → among k ys ≡ true → (1 ≤ k) × (k ≤ m))
    → (z : ℕ) → Exchange z xs ys → Exchanged (first_but xs ys) (first_but ys xs) (only m xs) (only m ys)
flags-exchanged m xs ys kx ky z x = record {
  size = length-only m ys ∙ sym (length-only m xs);
  out = leaving m xs ys kx ky;
  into = λ n. let r = leaving m ys xs ky kx n in (r.1, r.0);
  others = λ k some p q. elim (cases_lt m k) [
    | inl h ↦ past m ys k h ∙ sym (past m xs k h)
    | inr h ↦ flag m ys k some h ∙ same k p q ∙ sym (flag m xs k some h)
  ];
}
  where
    same : (k : ℕ) → (k ≡ first_but xs ys → ⊥) → (k ≡ first_but ys xs → ⊥) → among k ys ≡ among k xs
    same k p q = elim (cases_Bool (among k xs)) [
      | inl u ↦ elim (cases_Bool (among k ys)) [
        | inl v ↦ v ∙ sym u
        | inr v ↦ absurd (p (gone-first m xs ys kx ky x.leaves k (u, v)))
      ]
      | inr u ↦ elim (cases_Bool (among k ys)) [
        | inl v ↦ absurd (q (gone-first m ys xs ky kx x.comes k (v, u)))
        | inr v ↦ v ∙ sym u
      ]
    ]

-- A link's flag after it was set to b; 0 is skipped.
abbrev pub put : Bool → List Bool → ℕ → List Bool
put b c l = cond (eqb l 0) c (set c (l - 1) b)

pub length-put : (b : Bool) (c : List Bool) (l : ℕ) → length (put b c l) ≡ length c
length-put b c l = cond_both (eqb l 0) c (set c (l - 1) b) (λ d. length d ≡ length c) (λ _. refl) (λ _. length-set c (l - 1) b)

pub put-here : (b : Bool) (c : List Bool) (l i : ℕ) → i < length c → l ≡ suc i → get_or (put b c l) i false ≡ b
put-here b c l i h e =
    let j : l - 1 ≡ i = omega arith in
    cond_both (eqb l 0) c (set c (l - 1) b) (λ d. get_or d i false ≡ b) (λ q. absurd (grind (arith, nat_tests)))
    (λ _. ap (λ x. get_or (set c x b) i false) j ∙ get_or-set_same c i b false h)

pub put-there : (b : Bool) (c : List Bool) (l i : ℕ) → (l ≡ suc i → ⊥) → get_or (put b c l) i false ≡ get_or c i false
put-there b c l i n =
    cond_both (eqb l 0) c (set c (l - 1) b) (λ d. get_or d i false ≡ get_or c i false) (λ _. refl)
    (λ q. get_or-set_other c (l - 1) i b false (λ e. n (grind (arith, nat_tests))))

by_place : (c : List Bool) (l i : ℕ) → l ≡ suc i → get_or c i false ≡ carries c l
by_place c l i e = let j : i ≡ l - 1 = omega arith in ap (λ x. get_or c x false) j

-- An exchange, made: the one link out, then the other in.
pub remade : (c d : List Bool) (l e : ℕ) → Exchanged l e c d → lit (dimmed c l) e ≡ d
remade c d l e x =
    let s : length (lit (dimmed c l) e) ≡ length c = length-put true (dimmed c l) e ∙ length-put false c l in
    ext_get_or false (lit (dimmed c l) e) d (s ∙ sym x.size) (λ i h.
    let h1 : i < length c = omega (arith, s) in
    let h2 : i < length (dimmed c l) = omega (arith, length-put false c l) in
    elim (cases_eq e (suc i)) [
      | inl y ↦ put-here true (dimmed c l) e i h2 y ∙ sym (by_place d e i y ∙ (x.into (λ z. omega arith)).1)
      | inr y ↦ put-there true (dimmed c l) e i y ∙ elim (cases_eq l (suc i)) [
        | inl z ↦ put-here false c l i h1 z ∙ sym (by_place d l i z ∙ (x.out (λ w. omega arith)).1)
        | inr z ↦ put-there false c l i z ∙ by_place c (suc i) i refl
            ∙ sym (by_place d (suc i) i refl ∙ x.others (suc i) (omega arith) (λ w. z (sym w)) (λ w. y (sym w)))
      ]
    ])

-- A flag set to a, and set again to what it was.
pub unput : (a b : Bool) (c : List Bool) (l : ℕ) → ((l ≡ 0 → ⊥) → carries c l ≡ b) → put b (put a c l) l ≡ c
unput a b c l was =
    let s : length (put b (put a c l) l) ≡ length c = length-put b (put a c l) l ∙ length-put a c l in
    ext_get_or false (put b (put a c l) l) c s (λ i h.
    let h1 : i < length c = omega (arith, s) in
    let h2 : i < length (put a c l) = omega (arith, length-put a c l) in
    elim (cases_eq l (suc i)) [
      | inl y ↦ put-here b (put a c l) l i h2 y ∙ sym (by_place c l i y ∙ was (λ z. omega arith))
      | inr y ↦ put-there b (put a c l) l i y ∙ put-there a c l i y
    ])

-- The exchange back.
pub reversed : (c d : List Bool) (l e : ℕ) → Exchanged l e c d → Exchanged e l d c
reversed c d l e x = record {
  size = sym x.size;
  out = λ n. let r = x.into n in (r.1, r.0);
  into = λ n. let r = x.out n in (r.1, r.0);
  others = λ k some p q. sym (x.others k some q p);
}

-- What carries after a link has left carried before.
fewer-set : (c : List Bool) (i j : ℕ) → get_or (set c i false) j false ≡ true → get_or c j false ≡ true
fewer-set [] i j e = e
fewer-set (x ∷ xs) zero zero e = absurd (both_ways false refl e)
fewer-set (x ∷ xs) zero (suc j) e = e
fewer-set (x ∷ xs) (suc i) zero e = e
fewer-set (x ∷ xs) (suc i) (suc j) e = fewer-set xs i j e

pub fewer : (c : List Bool) (l k : ℕ) → carries (dimmed c l) k ≡ true → carries c k ≡ true
fewer c l k =
    cond_both (eqb l 0) c (set c (l - 1) false) (λ d. carries d k ≡ true → carries c k ≡ true) (λ _ h. h) (λ _. fewer-set c (l - 1) (k - 1))
