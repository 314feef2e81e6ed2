-- Worked texts.
use Rattle.std.specs.Prelude.{◌≡◌, ℕ, true, List, [], ◌∷◌, ◌++◌, Ok, Err, codes}
use Rattle.faults.specs.declared.DrawFault.TheVariants.{Parted}
use Rattle.faults.specs.declared.OpenFault.TheVariants.{NodeCount, EndOutside, NotJoined}
use Rattle.faults.specs.declared.TextFault.{TextFault}
use Rattle.faults.specs.declared.TextFault.TheVariants.{Malformed, OutOfPlace, OverCount}
use Rattle.network.specs.declared.types.Change.TheVariants.{Set, Remove, Flip}
use Rattle.network.specs.declared.types.LinkState.{LinkState}
use Rattle.weights.specs.declared.cost.Cost.{Cost}
use Rattle.plant_lines.specs.Line.{ends_of}
use Rattle.plan_lines.specs.Output.{tree_line, entry_line, work_line}
use Rattle.plant_text.specs.Plant.{costs, file_of}
use Rattle.plan_lines.specs.Refusal.{refusal_line, text_refusal, open_refusal, draw_refusal}

-- a line and its end
abbrev row : List ℕ → List ℕ → List ℕ
row l rest = l ++ 10 ∷ rest

abbrev cost : ℕ → Cost
cost c = record { 0 = c }

-- a present link of cost c
abbrev here : ℕ → LinkState Cost
here c = record { weight = cost c; present = true }

-- four switches, five links, five changes
abbrev pub four_switches : List ℕ
four_switches =
    row (codes "N 4") (row (codes "L 1 2 5") (row (codes "L 2 3 4") (row (codes "L 3 4 6") (row (codes "L 4 1 7") (row (codes "L 1 3 8") (row (codes "S 4 3") (row (codes "R 2") (row (codes "S 5 6") (row (codes "T 2") (row (codes "S 1 9") []))))))))))

-- its tables
abbrev pub FourSwitches : Type 0
FourSwitches =
    file_of four_switches ≡ Ok (costs (record {
      n = 4;
      ends = ends_of 1 2 ∷ ends_of 2 3 ∷ ends_of 3 4 ∷ ends_of 4 1 ∷ ends_of 1 3 ∷ [];
      links = here 5 ∷ here 4 ∷ here 6 ∷ here 7 ∷ here 8 ∷ [];
      link_lines = 2 ∷ 3 ∷ 4 ∷ 5 ∷ 6 ∷ [];
      changes = Set 4 (cost 3) ∷ Remove 2 ∷ Set 5 (cost 6) ∷ Flip 2 ∷ Set 1 (cost 9) ∷ [];
      change_lines = 7 ∷ 8 ∷ 9 ∷ 10 ∷ 11 ∷ [];
    }))

-- the text is refused so
abbrev Refuses : List ℕ → TextFault → Type 0
Refuses text f = file_of text ≡ Err f

-- nothing at all; a first line L; a last line without its end; too many nodes; a class above 7; a link after a change;
-- a leading zero; a number too large
abbrev pub RefusedTexts : Type 0
RefusedTexts =
    Refuses [] (OutOfPlace 1) × Refuses (row (codes "L") []) (OutOfPlace 1) × Refuses (codes "N 4") (Malformed 1) × Refuses (row (codes "N 33") []) (OverCount 1)
    × Refuses (row (codes "P 2") (row (codes "L 1 2 8 5") [])) (Malformed 2) × Refuses (row (codes "N 2") (row (codes "T 1") (row (codes "L 1 2 5") []))) (OutOfPlace 3)
    × Refuses (row (codes "N 2") (row (codes "T 01") [])) (Malformed 2) × Refuses (row (codes "N 2") (row (codes "S 1 4294967296") [])) (Malformed 2)

-- what is printed
abbrev pub PrintedLines : Type 0
PrintedLines =
    (refusal_line (text_refusal (Malformed 2)) ≡ codes "REFUSED 1 0 2") × (refusal_line (open_refusal (2 ∷ 3 ∷ []) NodeCount) ≡ codes "REFUSED 10 0 1")
    × (refusal_line (open_refusal (2 ∷ 3 ∷ []) (EndOutside 2)) ≡ codes "REFUSED 13 2 3") × (refusal_line (open_refusal (2 ∷ 3 ∷ []) NotJoined) ≡ codes "REFUSED 15 0 0")
    × (refusal_line (draw_refusal (7 ∷ 8 ∷ []) (2 ∷ []) (Parted 2)) ≡ codes "REFUSED 24 2 8") × (tree_line (1 ∷ 2 ∷ 3 ∷ []) ≡ codes "TREE 1 2 3") × (tree_line [] ≡ codes "TREE")
    × (entry_line 1 3 4 ≡ codes "1 3 4") × (work_line 39 ≡ codes "WORK 39")
