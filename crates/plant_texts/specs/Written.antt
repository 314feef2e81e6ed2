-- A plant written out as a text again, from what was read of it.
use Rattle.std.specs.Prelude.{ℕ, List, [], ◌∷◌, ◌++◌}
use Rattle.network.specs.declared.types.Change.{Change}
use Rattle.network.specs.declared.types.Change.TheVariants.{Set, Remove, Flip}
use Rattle.network.specs.declared.types.Ends.{Ends}
use Rattle.network.specs.declared.types.LinkState.{LinkState}
use Rattle.weights.specs.declared.class.Class.{Class}
use Rattle.weights.specs.declared.cost.Cost.{Cost}
use Rattle.plant_tables.specs.File.{File}
use Rattle.plan_lines.specs.Output.{spaced}
use Rattle.plant_text.specs.Plant.{Whole, costs, classes}

-- a line: a letter, then each number after a space, then byte 10
abbrev pub row : ℕ → List ℕ → List ℕ
row letter ns = letter ∷ spaced ns ++ 10 ∷ []

-- `spelled` has the numbers that a line has for a weight.
module _ {W : Type 0} (spelled : W → List ℕ) where
  -- L, two ends and a weight for each link
  abbrev pub link_rows : List Ends → List (LinkState W) → List ℕ
  link_rows [] ls = []
  link_rows (e ∷ es) [] = []
  link_rows (e ∷ es) (l ∷ ls) = row 76 (e.a.0 ∷ e.b.0 ∷ spelled l.weight) ++ link_rows es ls

  -- S, R or T, the link, and for S a weight
  abbrev pub change_row : Change W → List ℕ
  change_row (Set k w) = row 83 (k ∷ spelled w)
  change_row (Remove k) = row 82 (k ∷ [])
  change_row (Flip k) = row 84 (k ∷ [])

  abbrev pub change_rows : List (Change W) → List ℕ
  change_rows [] = []
  change_rows (c ∷ cs) = change_row c ++ change_rows cs

  -- all links, then all changes
  abbrev pub rows : File W → List ℕ
  rows f = link_rows f.ends f.links ++ change_rows f.changes

abbrev pub cost_spelled : Cost → List ℕ
cost_spelled w = w.0 ∷ []

abbrev pub class_spelled : Class → List ℕ
class_spelled w = w.class ∷ w.cost ∷ []

-- N or P and the number of nodes, then the other lines
abbrev pub written : Whole → List ℕ
written (costs f) = row 78 (f.n ∷ []) ++ rows cost_spelled f
written (classes f) = row 80 (f.n ∷ []) ++ rows class_spelled f
