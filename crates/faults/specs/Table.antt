-- The table of refusals: for each ground its layer, its code and its place.
use Rattle.std.specs.Prelude.{ℕ}
use Rattle.faults.specs.declared.Layer.{Layer}
use Rattle.faults.specs.declared.Layer.TheVariants.{Text, Book, Planner, Player, Fabric}
use Rattle.faults.specs.declared.Fault.{Fault}
use Rattle.faults.specs.declared.WeightFault.{WeightFault}
use Rattle.faults.specs.declared.WeightFault.TheVariants as weight
use Rattle.faults.specs.declared.OpenFault.{OpenFault}
use Rattle.faults.specs.declared.OpenFault.TheVariants as open'
use Rattle.faults.specs.declared.DrawFault.{DrawFault}
use Rattle.faults.specs.declared.DrawFault.TheVariants as draw
use Rattle.faults.specs.declared.FabricFault.{FabricFault}
use Rattle.faults.specs.declared.FabricFault.TheVariants as fabric
use Rattle.faults.specs.declared.BlankFault.{BlankFault}
use Rattle.faults.specs.declared.BlankFault.TheVariants as blank
use Rattle.faults.specs.declared.PlayerFault.{PlayerFault}
use Rattle.faults.specs.declared.PlayerFault.TheVariants as player
use Rattle.faults.specs.declared.TextFault.{TextFault}
use Rattle.faults.specs.declared.TextFault.TheVariants as text

abbrev pub at : Layer → ℕ → ℕ → Fault
at l c p = record { layer = l; code = c; place = p }

abbrev pub of_weight : WeightFault → Fault
of_weight weight.ClassAbove = at Book 16 0

abbrev pub of_open : OpenFault → Fault
of_open open'.NodeCount = at Book 10 0
of_open open'.LinkCount = at Book 11 0
of_open open'.ShortTables = at Book 12 0
of_open (open'.EndOutside link) = at Book 13 link
of_open (open'.SameEnds link) = at Book 14 link
of_open open'.NotJoined = at Book 15 0

abbrev pub of_draw : DrawFault → Fault
of_draw (draw.NotOpened f) = of_open f
of_draw draw.ChangeCount = at Planner 20 0
of_draw draw.ShortTables = at Planner 21 0
of_draw (draw.LinkOutside change) = at Planner 22 change
of_draw (draw.RemoveAbsent change) = at Planner 23 change
of_draw (draw.Parted change) = at Planner 24 change

abbrev pub of_fabric : FabricFault → Fault
of_fabric (fabric.LinkOutside link) = at Fabric 40 link
of_fabric (fabric.CarriesAlready link) = at Fabric 41 link
of_fabric (fabric.CarriesNot link) = at Fabric 42 link

abbrev pub of_blank : BlankFault → Fault
of_blank blank.NodeCount = at Fabric 10 0
of_blank blank.LinkCount = at Fabric 11 0
of_blank blank.ShortMemory = at Fabric 12 0
of_blank (blank.EndOutside link) = at Fabric 13 link
of_blank (blank.SameEnds link) = at Fabric 14 link

abbrev pub of_player : PlayerFault → Fault
of_player player.OtherSize = at Player 30 0
of_player player.NotBlank = at Player 31 0
of_player (player.NoEntry moment) = at Player 32 moment
of_player (player.Refused f) = at Player 33 (of_fabric f).place
of_player player.OtherPlan = at Player 34 0

abbrev pub of_text : TextFault → Fault
of_text (text.Malformed line) = at Text 1 0
of_text (text.OutOfPlace line) = at Text 2 0
of_text (text.OverCount line) = at Text 3 0
