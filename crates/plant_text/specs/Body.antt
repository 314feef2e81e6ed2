-- The lines of a text after the first: links, then changes.
use Rattle.std.specs.Prelude.{ℕ, suc, cond, List, [], ◌∷◌, Ok, Err, Option, Result}
use Rattle.faults.specs.declared.TextFault.{TextFault}
use Rattle.faults.specs.declared.TextFault.TheVariants.{Malformed}
use Rattle.plant_lines.specs.Line.{line_at}
use Rattle.plant_tables.specs.File.{File, then, none, placed}

module _ {W : Type 0} (made : List ℕ → Option W) where
  -- The lines from line i on, one after the other up to the first fault. Byte 10 ends every line, so that the
  -- stretch behind the last byte 10 is empty; else the last line is malformed.
  unfoldable pub body : File W → ℕ → List (List ℕ) → Result (File W) TextFault
  body f i [] = Ok f
  body f i (l ∷ []) = cond (none l) (Ok f) (Err (Malformed i))
  body f i (l ∷ m ∷ ls) = then (then (line_at made i l) (placed f i)) (λ g. body g (suc i) (m ∷ ls))
