-- One line of a text: a letter and numbers.
use Rattle.std.specs.Prelude.{ℕ, List, [], ◌∷◌, Some, None, Option, Result}
use Rattle.std.specs.Option.{option_map, ok_or}
use Rattle.faults.specs.declared.TextFault.{TextFault}
use Rattle.faults.specs.declared.TextFault.TheVariants.{Malformed}
use Rattle.network.specs.declared.types.Change.TheVariants as change
use Rattle.network.specs.declared.types.Ends.{Ends}
use Rattle.plant_lines.specs.declared.item.Item.{Item}
use Rattle.plant_lines.specs.declared.item.Item.TheVariants as item
use Rattle.plant_lines.specs.declared.item.Kind.TheVariants as kind
use Rattle.text_words.specs.declared.token.Letter.{Letter}
use Rattle.text_words.specs.declared.token.Letter.TheVariants.{Costs, Classes, Link, Set, Remove, Flip}
use Rattle.text_words.specs.Letter.{letter_word}
use Rattle.text_words.specs.Number.{numeral}
use Rattle.text_words.specs.Split.{parts}

-- a number in front of the others, if all are there
abbrev pub before : Option ℕ → Option (List ℕ) → Option (List ℕ)
before None ns = None
before (Some n) None = None
before (Some n) (Some ns) = Some (n ∷ ns)

-- the numbers that these words write, if each of them writes one
unfoldable pub numbers : List (List ℕ) → Option (List ℕ)
numbers [] = Some []
numbers (w ∷ ws) = before (numeral w) (numbers ws)

-- the number of a line that has just one
abbrev pub only_of : List ℕ → Option ℕ
only_of [] = None
only_of (n ∷ []) = Some n
only_of (n ∷ m ∷ ns) = None

-- the ends that two numbers tell
abbrev pub ends_of : ℕ → ℕ → Ends
ends_of a b = record { a = record { 0 = a }; b = record { 0 = b } }

-- `made` is how the file's kind makes a weight of numbers, if they are as many as it takes and in its range.
module _ {W : Type 0} (made : List ℕ → Option W) where
  -- two ends, then the numbers of a weight
  abbrev pub link_of : List ℕ → Option (Item W)
  link_of [] = None
  link_of (a ∷ []) = None
  link_of (a ∷ b ∷ ns) = option_map (item.Link (ends_of a b)) (made ns)

  -- a link, then the numbers of a weight
  abbrev pub set_of : List ℕ → Option (Item W)
  set_of [] = None
  set_of (k ∷ ns) = option_map (λ w. item.Change (change.Set k w)) (made ns)

  -- what a letter tells with these numbers
  abbrev pub item_of : Letter → List ℕ → Option (Item W)
  item_of Costs ns = option_map (item.Head kind.Cost) (only_of ns)
  item_of Classes ns = option_map (item.Head kind.Class) (only_of ns)
  item_of Link ns = link_of ns
  item_of Set ns = set_of ns
  item_of Remove ns = option_map (λ k. item.Change (change.Remove k)) (only_of ns)
  item_of Flip ns = option_map (λ k. item.Change (change.Flip k)) (only_of ns)

  -- the same, if the letter and the numbers are there
  abbrev pub item_from : Option Letter → Option (List ℕ) → Option (Item W)
  item_from None ns = None
  item_from (Some l) None = None
  item_from (Some l) (Some ns) = item_of l ns

  -- what the words of a line tell: the first is the letter, the others are numbers
  abbrev pub shape : List (List ℕ) → Option (Item W)
  shape [] = None
  shape (w ∷ ws) = item_from (letter_word w) (numbers ws)

  -- what line i tells, its words split by one space (byte 32) each; else it is malformed
  abbrev pub line_at : ℕ → List ℕ → Result (Item W) TextFault
  line_at i bs = ok_or (shape (parts 32 bs)) (Malformed i)
