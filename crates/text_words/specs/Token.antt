-- What a word tells.
use Rattle.std.specs.Prelude.{ℕ, None, Option}
use Rattle.text_words.specs.declared.token.Letter.{Letter}
use Rattle.text_words.specs.declared.token.Token.{Token}
use Rattle.text_words.specs.declared.token.Token.TheVariants.{Head, Word}
use Rattle.text_words.specs.Number.{numeral}
use Rattle.text_words.specs.Letter.{letter_word}

-- the line that a word stands in
abbrev pub at : Token → ℕ
at (Head text line) = line
at (Word text line) = line

abbrev pub letter_in : Token → Option Letter
letter_in (Head text line) = letter_word text.now
letter_in (Word text line) = None

abbrev pub number_in : Token → Option ℕ
number_in (Head text line) = None
number_in (Word text line) = numeral text.now
