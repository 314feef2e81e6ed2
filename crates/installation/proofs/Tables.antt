-- Tables that are cut into parts: written part by part, and read as a whole.
use Rattle.std.proofs.Common.{◌≡◌, ℕ, zero, suc, ◌+◌, ◌*◌, ◌/◌, ◌<◌, ◌≤◌, ◌⊎◌, List, ◌++◌, length, take, drop, Some, None, Option, sym, refl, ap, ◌∙◌, inl, inr, mul-le-mul_right, suc-mul, zero-mul, arith}
use native.Mathlib.Nat.{mul-div-le}
use borrow.Rule.Slice.PartMut.{put_mid, post_of, same_len_mid}
use Rattle.std.proofs.lemmas.List.{length-take-le, length-drop, take-append-drop, take-take, take_at, drop_at, drop-take}
use Rattle.std.proofs.lemmas.Slice.{take-put_mid_below, drop-put_mid}
use Rattle.std.proofs.lemmas.Bool.{cases_lt}
use Rattle.installation.specs.Slots.{width, part, or_kept, parts, table_now, Table}
use Rattle.installation.specs.declared.memory.Memory.{Memory}
use Rattle.installation.specs.Memory.{SameTables}

-- Where a slot's part ends.
pub part-ends : (slots s w : ℕ) → s < slots → s * w + w ≤ slots * w
part-ends slots s w h = let a = mul-le-mul_right w h in let b = suc-mul s w in omega arith

pub part_within : (slots s n : ℕ) → s < slots → s * (n / slots) + n / slots ≤ n
part_within slots s n h = let a = part-ends slots s (n / slots) h in let b = mul-div-le n slots in omega arith

pub part-long : {X : Type 0} (slots s : ℕ) (xs : List X) → s < slots → length (part (width slots xs) s xs) ≡ width slots xs
part-long slots s xs h =
    length-take-le (width slots xs) (drop (s * width slots xs) xs)
    (let a = length-drop (s * width slots xs) xs in let b = part_within slots s (length xs) h in omega arith)

take-add : {X : Type 0} (n m : ℕ) (xs : List X) → take n xs ++ take m (drop n xs) ≡ take (n + m) xs
take-add n m xs =
    ap (λ z. z ++ take m (drop n xs)) (sym (take-take n (n + m) xs (omega arith)))
    ∙ ap (λ z. take n (take (n + m) xs) ++ z) (sym (drop-take n m xs))
    ∙ take-append-drop n (take (n + m) xs)

-- A list is its parts, and the rest.
parts-front : {X : Type 0} (w k : ℕ) (xs : List X) → parts (λ s. part w s xs) k ≡ take (k * w) xs
parts-front w zero xs = sym (ap (λ n. take n xs) (zero-mul w))
parts-front w (suc k) xs =
    ap (λ z. z ++ part w k xs) (parts-front w k xs) ∙ take-add (k * w) w xs ∙ ap (λ n. take n xs) (sym (suc-mul k w))

parts_same : {X : Type 0} (f g : ℕ → List X) (k : ℕ) → ((s : ℕ) → s < k → f s ≡ g s) → parts f k ≡ parts g k
parts_same f g zero h = refl
parts_same f g (suc k) h =
    ap (λ z. z ++ f k) (parts_same f g k (λ s l. h s (omega arith))) ∙ ap (λ z. parts g k ++ z) (h k (omega arith))

pub table_is : {X : Type 0} (slots : ℕ) (written : ℕ → Option (List X)) (was now : List X) → Table slots written was now → now ≡ table_now slots written was
table_is slots written was now t =
    let w = width slots was in
    sym (take-append-drop (slots * w) now)
    ∙ ap (λ z. z ++ drop (slots * w) now) (sym (parts-front w slots now) ∙ parts_same (λ s. part w s now) (λ s. or_kept (written s) (part w s was)) slots t.part-is)
    ∙ ap (λ z. parts (λ s. or_kept (written s) (part w s was)) slots ++ z) t.rest-is

-- Nothing is written.
pub table-new : {X : Type 0} (slots : ℕ) (written : ℕ → Option (List X)) (was : List X) → ((s : ℕ) → written s ≡ None) → Table slots written was was
table-new slots written was e = record {
  long = refl;
  part-is = λ s h. sym (ap (λ (o : Option (List _)). or_kept o (part (width slots was) s was)) (e s));
  rest-is = refl;
}

-- What a write to one part leaves of it, and of the others.
module _ {X : Type 0} (w s : ℕ) (xs ys : List X) (fits : s * w + w ≤ length xs) (long : length ys ≡ w) where
  put-here : part w s (put_mid (s * w) w xs ys) ≡ ys
  put-here =
      ap (take w) (drop_at (take (s * w) xs) (ys ++ post_of (s * w) w xs) (s * w) (length-take-le (s * w) xs (omega arith)))
      ∙ take_at ys (post_of (s * w) w xs) w long

  put-before : (r : ℕ) → r < s → part w r (put_mid (s * w) w xs ys) ≡ part w r xs
  put-before r h =
      sym (drop-take (r * w) w (put_mid (s * w) w xs ys))
      ∙ ap (drop (r * w)) (take-put_mid_below (s * w) w xs ys (r * w + w) (part-ends s r w h) (omega arith))
      ∙ drop-take (r * w) w xs

  put-after : (n : ℕ) → s * w + w ≤ n → drop n (put_mid (s * w) w xs ys) ≡ drop n xs
  put-after n h = drop-put_mid (s * w) w xs ys n h (omega arith) long

  put-long : length (put_mid (s * w) w xs ys) ≡ length xs
  put-long = same_len_mid (s * w) w xs ys (long ∙ sym (length-take-le w (drop (s * w) xs) (let a = length-drop (s * w) xs in omega arith)))

-- A part is written.
pub table-put : {X : Type 0} (slots s : ℕ) (written after : ℕ → Option (List X)) (was now ys : List X) → s < slots → length ys ≡ width slots was
    → after s ≡ Some ys → ((r : ℕ) → (r ≡ s → ⊥) → after r ≡ written r) → Table slots written was now
    → Table slots after was (put_mid (s * width slots was) (width slots was) now ys)
table-put slots s written after was now ys h long here others t =
    let w = width slots was in
    let fits : s * w + w ≤ length now = let a = part_within slots s (length was) h in let b = t.long in omega arith in
    let off : (r : ℕ) → r < slots → (r ≡ s → ⊥) → part w r (put_mid (s * w) w now ys) ≡ part w r now
    → part w r (put_mid (s * w) w now ys) ≡ or_kept (after r) (part w r was) =
    λ r l n e. e ∙ t.part-is r l ∙ ap (λ (o : Option (List _)). or_kept o (part w r was)) (sym (others r n)) in
    record {
      long = put-long w s now ys fits long ∙ t.long;
      part-is = λ r l.
          elim (apart r s) [
            | inl e ↦ rw e
                (put-here w s now ys fits long ∙ sym (ap (λ (o : Option (List _)). or_kept o (part w s was)) here))
            | inr n ↦ elim n [
              | inl b ↦ off r l (λ e. omega arith) (put-before w s now ys fits long r b)
              | inr a ↦ off r l (λ e. omega arith) (ap (take w) (put-after w s now ys fits long (r * w) (part-ends r s w a)))
            ]
          ];
      rest-is = put-after w s now ys fits long (slots * w) (part-ends slots s w h) ∙ t.rest-is;
    }
  where
    apart : (r s : ℕ) → (r ≡ s) ⊎ ((r < s) ⊎ (s < r))
    apart r s = elim (cases_lt r s) [ inl a ↦ inr (inl a) | inr b ↦ elim (cases_lt s r) [ inl c ↦ inr (inr c) | inr d ↦ inl (omega arith) ] ]

-- Tables that are still those that were lent.
pub tables-kept : {W : Type 0} (m : Memory W) → SameTables m m
tables-kept m = record { plans = (refl, refl); changes = refl; start = (refl, refl); entries = (refl, refl); work = (refl, refl) }

pub kept-then : {W : Type 0} {a b c : Memory W} → SameTables a b → SameTables b c → SameTables a c
kept-then p q = record {
  plans = (q.plans.0 ∙ p.plans.0, q.plans.1 ∙ p.plans.1);
  changes = q.changes ∙ p.changes;
  start = (q.start.0 ∙ p.start.0, q.start.1 ∙ p.start.1);
  entries = (q.entries.0 ∙ p.entries.0, q.entries.1 ∙ p.entries.1);
  work = (q.work.0 ∙ p.work.0, q.work.1 ∙ p.work.1);
}
