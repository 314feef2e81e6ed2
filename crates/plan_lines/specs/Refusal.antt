-- The line that a refusal prints: REFUSED, its code, its place, and the line of the text that it is about.
use Rattle.std.specs.Prelude.{ℕ, zero, suc, List, ◌++◌, codes, decimal, slice_index}
use Rattle.faults.specs.Table.{of_text, of_open, of_draw}
use Rattle.faults.specs.declared.Fault.{Fault}
use Rattle.faults.specs.declared.TextFault.{TextFault}
use Rattle.faults.specs.declared.TextFault.TheVariants as text
use Rattle.faults.specs.declared.OpenFault.{OpenFault}
use Rattle.faults.specs.declared.OpenFault.TheVariants as open'
use Rattle.faults.specs.declared.DrawFault.{DrawFault}
use Rattle.faults.specs.declared.DrawFault.TheVariants as draw
use Rattle.plan_lines.specs.declared.refusal.Refusal.{Refusal}

-- a report, with the line that it is about
abbrev pub refused : Fault → ℕ → Refusal
refused f i = record { report = f; line = i }

-- what is printed
abbrev pub refusal_line : Refusal → List ℕ
refusal_line r = codes "REFUSED " ++ (decimal r.report.code ++ (codes " " ++ (decimal r.report.place ++ (codes " " ++ decimal r.line))))

-- the line that tells item k, counted from 1, where `lines` has the line of each item; 0 if there is no such item
abbrev pub line_of : List ℕ → ℕ → ℕ
line_of lines zero = 0
line_of lines (suc k) = slice_index lines k

-- a fault of the text has its line with it
abbrev pub text_line : TextFault → ℕ
text_line (text.Malformed i) = i
text_line (text.OutOfPlace i) = i
text_line (text.OverCount i) = i

-- The number of nodes stands in line 1, and the ends of a link in the link's line. The other grounds are about no line.
abbrev pub open_line : List ℕ → OpenFault → ℕ
open_line links open'.NodeCount = 1
open_line links open'.LinkCount = 0
open_line links open'.ShortTables = 0
open_line links (open'.EndOutside k) = line_of links k
open_line links (open'.SameEnds k) = line_of links k
open_line links open'.NotJoined = 0

-- A refused change is about its own line.
abbrev pub draw_line : List ℕ → List ℕ → DrawFault → ℕ
draw_line changes links (draw.NotOpened f) = open_line links f
draw_line changes links draw.ChangeCount = 0
draw_line changes links draw.ShortTables = 0
draw_line changes links (draw.LinkOutside i) = line_of changes i
draw_line changes links (draw.RemoveAbsent i) = line_of changes i
draw_line changes links (draw.Parted i) = line_of changes i

abbrev pub text_refusal : TextFault → Refusal
text_refusal f = refused (of_text f) (text_line f)

abbrev pub open_refusal : List ℕ → OpenFault → Refusal
open_refusal links f = refused (of_open f) (open_line links f)

abbrev pub draw_refusal : List ℕ → List ℕ → DrawFault → Refusal
draw_refusal changes links f = refused (of_draw f) (draw_line changes links f)
