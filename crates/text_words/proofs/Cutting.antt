-- Bytes cut at the first mark.
use Rattle.std.proofs.Common.{◌≡◌, ℕ, ◌+◌, ◌-◌, ◌<◌, ◌≤◌, eqb, ltb, List, [], ◌∷◌, length, take, drop, Some, None, refl, arith, length-drop}
use Rattle.std.specs.List.{position, position_or_len}
use Rattle.std.proofs.lemmas.Grind.{common_steps}
use Rattle.std.proofs.lemmas.Bool.{ltb-true}
use Rattle.std.proofs.lemmas.List.{length-take-le, take_rest}
use Rattle.std.proofs.lemmas.List.Splits.{slice_split_first, slice_split_none, length-slice_split}
use Rattle.std.proofs.lemmas.List.Sums.{fails_before_first}
use Rattle.std.proofs.lemmas.Option.{cond_some}
use Rattle.text_words.specs.Split.{parts, Cut}

-- where no mark stands
pub cut_none : (mark : ℕ) (bs : List ℕ) → position (λ b. eqb b mark) bs ≡ None → parts mark bs ≡ bs ∷ []
cut_none mark bs h =
    let far : length bs ≤ position_or_len (λ b. eqb b mark) bs = grind (arith, common_steps) in
    slice_split_none (λ b. eqb b mark) bs (λ k d l. fails_before_first (λ b. eqb b mark) bs k d (omega arith))

-- what `cut` returns at the first mark
pub cut_at : (mark : ℕ) (bs : List ℕ) (i : ℕ) → position (λ b. eqb b mark) bs ≡ Some i → Cut mark bs (take i bs) (take (length bs - (i + 1)) (drop (i + 1) bs))
cut_at mark bs i h =
    let q = cond_some (ltb (position_or_len (λ b. eqb b mark) bs) (length bs)) _ _ h in
    let l = ltb-true _ _ q.0 in
    let split = slice_split_first (λ b. eqb b mark) bs 0 l in
    let rest = take_rest bs (i + 1) in
    let front = length-take-le i bs (omega arith) in
    let back = length-drop (i + 1) bs in
    record { split = rw (rest, ← q.1) split; sizes = rw rest (omega arith) }

first_of : {X : Type 0} (xs : List X) → 0 < length xs → (x : X) × (ys : List X) × (xs ≡ x ∷ ys)
first_of [] h = absurd (omega arith)
first_of (x ∷ xs) h = (x, xs, refl)

-- there is always a first part
pub parts-some : (mark : ℕ) (bs : List ℕ) → (p : List ℕ) × (ps : List (List ℕ)) × (parts mark bs ≡ p ∷ ps)
parts-some mark bs =
    let n = length-slice_split (λ b. eqb b mark) bs in
    first_of (parts mark bs) (omega arith)
