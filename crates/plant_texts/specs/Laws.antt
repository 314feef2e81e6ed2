-- Laws of the format: a plant that was read, written out again, gives the text back; so do the parts of a text, and a
-- number.
use Rattle.std.specs.Prelude.{◌≡◌, ℕ, ◌<◌, List, Some, Ok, decimal}
use Rattle.std.specs.List.{join_with_byte}
use Rattle.text_words.specs.Number.{numeral}
use Rattle.plant_text.specs.Plant.{Whole, file_of}
use Rattle.text_words.specs.Split.{parts}
use Rattle.plant_texts.specs.Written.{written}

-- for every text that is accepted, what was read of it, written out, is the text, byte for byte
abbrev pub ReadsBack : Type 0
ReadsBack = (text : List ℕ) (plant : Whole) → file_of text ≡ Ok plant → written plant ≡ text

-- parts with a mark between each and the next
abbrev pub joined_by : ℕ → List (List ℕ) → List ℕ
joined_by mark ps = join_with_byte mark ps

-- the parts of any bytes, with the marks put back, are the bytes
abbrev pub PartsJoin : Type 0
PartsJoin = (mark : ℕ) (bytes : List ℕ) → joined_by mark (parts mark bytes) ≡ bytes

-- a number is read from what is written of it, and from nothing else
abbrev pub NumbersOneWay : Type 0
NumbersOneWay = ((n : ℕ) → n < 4294967296 → numeral (decimal n) ≡ Some n) × ((word : List ℕ) (n : ℕ) → numeral word ≡ Some n → decimal n ≡ word)
