-- The letters that tell the kind of a line.
use Rattle.std.specs.Prelude.{ℕ, cond, List, [], ◌∷◌, Some, None, Option, ◌==◌}
use Rattle.text_words.specs.declared.token.Letter.{Letter}
use Rattle.text_words.specs.declared.token.UnknownLetter.{UnknownLetter}
use Rattle.text_words.specs.declared.token.Letter.TheVariants.{Costs, Classes, Link, Set, Remove, Flip}

-- the kind of line that a character tells: N, P, L, S, R and T, by their codes
abbrev pub letter_of : ℕ → Option Letter
letter_of c =
    cond (c == 78) (Some Costs) (cond (c == 80) (Some Classes) (cond (c == 76) (Some Link) (cond (c == 83) (Some Set) (cond (c == 82) (Some Remove) (cond (c == 84) (Some Flip) None)))))

-- the answer for a character that tells no kind of line
abbrev pub unknown : ℕ → UnknownLetter
unknown c = record { 0 = c }

-- a word that is one letter
abbrev pub letter_word : List ℕ → Option Letter
letter_word [] = None
letter_word (b ∷ []) = letter_of b
letter_word (b ∷ c ∷ bs) = None
