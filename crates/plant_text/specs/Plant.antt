-- The text of a plant, of either kind.
use Rattle.std.specs.Prelude.{ℕ, Bool, true, false, cond, List, [], ◌∷◌, length, Some, None, Ok, Err, Option, Result, nat_lt}
use Rattle.faults.specs.declared.TextFault.{TextFault}
use Rattle.faults.specs.declared.TextFault.TheVariants.{Malformed, OutOfPlace, OverCount}
use Rattle.weights.specs.declared.class.Class.{Class}
use Rattle.weights.specs.declared.cost.Cost.{Cost}
use Rattle.weights.specs.Made.{cost_from, class_from}
use Rattle.plant_lines.specs.declared.item.Item.{Item}
use Rattle.plant_lines.specs.declared.item.Item.TheVariants as item
use Rattle.plant_lines.specs.declared.item.Kind.{Kind}
use Rattle.plant_lines.specs.declared.item.Kind.TheVariants as kind
use Rattle.plant_text.specs.declared.plant.Plant.{Plant}
use Rattle.plant_text.specs.declared.plant.Plant.TheVariants as plant
use Rattle.text_words.specs.declared.token.Letter.{Letter}
use Rattle.text_words.specs.declared.token.Letter.TheVariants.{Costs, Classes, Link, Set, Remove, Flip}
use Rattle.plant_tables.specs.File.{File, seen, then, blank}
use Rattle.plant_text.specs.Body.{body}
use Rattle.plant_tables.specs.Room.{Roomy}
use Rattle.plant_tables.specs.Limits.{max_bytes, max_nodes}
use Rattle.plant_lines.specs.Line.{line_at}
use Rattle.text_words.specs.Letter.{letter_of}
use Rattle.text_words.specs.Split.{parts}

-- a file of cost weights or of class weights
pub data Whole : Type 0 where
  costs : File Cost → Whole
  classes : File Class → Whole

-- what a plant of the code holds
abbrev pub whole : Plant → Whole
whole (plant.Costs t) = costs (seen t)
whole (plant.Classes t) = classes (seen t)

-- its tables have memory for all that a text may tell, and a line for each link and change
abbrev pub roomy : Plant → Type 0
roomy (plant.Costs t) = Roomy t
roomy (plant.Classes t) = Roomy t

-- L, S, R and T, which no first line starts with
abbrev pub is_later : Option Letter → Bool
is_later None = false
is_later (Some Costs) = false
is_later (Some Classes) = false
is_later (Some Link) = true
is_later (Some Set) = true
is_later (Some Remove) = true
is_later (Some Flip) = true

-- line 1 is missing, or starts as a later line does
abbrev pub lacks_head : List ℕ → Bool
lacks_head [] = true
lacks_head (b ∷ bs) = is_later (letter_of b)

-- a file of this kind with n nodes, at most 32, and these lines from line 2 on
abbrev pub headed : List (List ℕ) → Kind → ℕ → Result Whole TextFault
headed ls kind.Cost n = cond (nat_lt max_nodes n) (Err (OverCount 1)) (then (body cost_from (blank n) 2 ls) (λ f. Ok (costs f)))
headed ls kind.Class n = cond (nat_lt max_nodes n) (Err (OverCount 1)) (then (body class_from (blank n) 2 ls) (λ f. Ok (classes f)))

-- a first line that was read, and the lines after it
abbrev pub opened : List (List ℕ) → Item Cost → Result Whole TextFault
opened ls (item.Head k n) = headed ls k n
opened ls (item.Link e w) = Err (OutOfPlace 1)
opened ls (item.Change c) = Err (OutOfPlace 1)

-- The first line, then the others. A head has the same form in both kinds, so that costs serve to read it.
abbrev pub lines : List (List ℕ) → Result Whole TextFault
lines [] = Err (Malformed 1)
lines (l ∷ []) = Err (Malformed 1)
lines (l ∷ m ∷ ls) = then (line_at cost_from 1 l) (opened (m ∷ ls))

-- What a text tells, or why it is refused: first by its number of bytes, then by what line 1 starts with, then line by
-- line.
abbrev pub file_of : List ℕ → Result Whole TextFault
file_of bs = cond (nat_lt max_bytes (length bs)) (Err (OverCount 0)) (cond (lacks_head bs) (Err (OutOfPlace 1)) (lines (parts 10 bs)))
