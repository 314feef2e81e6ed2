-- What the numbers of a line tell.
use Rattle.std.proofs.Common.{◌≡◌, ℕ, ◌+◌, ◌<◌, ◌≤◌, List, [], ◌∷◌, ◌++◌, length, get_or, drop, Some, None, Ok, Err, Option, sym, refl, ap, ◌∙◌, arith}
use Rattle.std.proofs.lemmas.List.{append-nil, append_assoc, at_drop_more, at_drop_all}
use Rattle.std.specs.Option.{option_map, ok_or}
use Rattle.faults.specs.declared.TextFault.{TextFault}
use Rattle.faults.specs.declared.TextFault.TheVariants.{Malformed}
use Rattle.text_words.specs.declared.token.Letter.{Letter}
use Rattle.text_words.specs.declared.token.Letter.TheVariants.{Costs, Classes, Link, Set, Remove, Flip}
use Rattle.plant_lines.specs.Line.{item_from, shape, line_at, numbers, before}
use Rattle.text_words.specs.Letter.{letter_word}
use Rattle.text_words.specs.Number.{numeral}
use Rattle.text_words.specs.Split.{parts}

mapped-more : (xs : List ℕ) (n : ℕ) (o : Option (List ℕ)) → option_map (λ ns. xs ++ ns) (before (Some n) o) ≡ option_map (λ ns. (xs ++ n ∷ []) ++ ns) o
mapped-more xs n None = refl
mapped-more xs n (Some ns) = ap Some (sym (append_assoc xs (n ∷ []) ns))

-- The words `all` of a line: the numbers xs of the first i are read.
module _ (all : List (List ℕ)) (xs : List ℕ) (i : ℕ) (so : numbers all ≡ option_map (λ ns. xs ++ ns) (numbers (drop i all))) where
  -- the next word, and the words after it
  module _ (w : List ℕ) (turn : (i < length all) × (w ≡ get_or all i w)) where
    word-next : numbers all ≡ option_map (λ ns. xs ++ ns) (before (numeral w) (numbers (drop (i + 1) all)))
    unfolding numbers
    word-next = so ∙ ap (option_map (λ ns. xs ++ ns)) (at_drop_more numbers all i w turn.0 ∙ ap (λ v. before (numeral v) (numbers (drop (i + 1) all))) (sym turn.1))

    pub words-err : (line : ℕ) (e : TextFault) → Err e ≡ ok_or (numeral w) (Malformed line) → Err e ≡ ok_or (numbers all) (Malformed line)
    words-err line e h =
        let none : numeral w ≡ None = grind arith in
        let same : e ≡ Malformed line = grind arith in
        rw (same, word-next, none) refl

    pub words_more : (line n : ℕ) (ys : List ℕ) (j : ℕ) → Ok n ≡ ok_or (numeral w) (Malformed line) → ys ≡ xs ++ n ∷ [] → j ≡ i + 1 → numbers all ≡ option_map (λ ns. ys ++ ns) (numbers (drop j all))
    words_more line n ys j h e k =
        let some : numeral w ≡ Some n = grind arith in
        rw (e, k, word-next, some) (mapped-more xs n (numbers (drop (i + 1) all)))

  pub words-all : (line : ℕ) → length all ≤ i → Ok xs ≡ ok_or (numbers all) (Malformed line)
  unfolding numbers
  words-all line h = rw (so, at_drop_all numbers all i h, append-nil xs) refl

module _ {W : Type 0} (made : List ℕ → Option W) where
  no-numbers : (o : Option Letter) → item_from made o (Some []) ≡ None
  no-numbers None = refl
  no-numbers (Some Costs) = refl
  no-numbers (Some Classes) = refl
  no-numbers (Some Link) = refl
  no-numbers (Some Set) = refl
  no-numbers (Some Remove) = refl
  no-numbers (Some Flip) = refl

  pub line-bare : (i : ℕ) (bs : List ℕ) → parts 32 bs ≡ bs ∷ [] → Err (Malformed i) ≡ line_at made i bs
  unfolding numbers
  line-bare i bs h = sym (ap (λ ps. ok_or (shape made ps) (Malformed i)) h ∙ ap (λ o. ok_or o (Malformed i)) (no-numbers (letter_word bs)))
