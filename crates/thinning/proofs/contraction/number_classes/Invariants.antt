use Rattle.std.proofs.Common.{◌≡◌, ◌-◌, ◌<◌, List}
use Rattle.block_records.specs.declared.Link.{Link}
use Rattle.graphs.specs.Thin.{roots}
use Rattle.forests.specs.Union.{Holds}
use Rattle.thinning.specs.Names.{Renames}
use Rattle.thinning.proofs.contraction.number_classes.Given as goal

abbrev pub invariant-loop-x : goal.invariant-loop-x
invariant-loop-x l =
    (l.count < l.x) × ((ms : List Link) → Holds ms l.classes.parent.now → (l.count ≡ roots ms (l.x - 1)) × Renames ms l.name l.x)
