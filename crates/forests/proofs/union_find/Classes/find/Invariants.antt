use Rattle.std.proofs.Common.{◌≡◌, ◌<◌, ◌≤◌, List, length, get_or}
use Rattle.block_records.specs.declared.Link.{Link}
use Rattle.graphs.specs.Graph.{label}
use Rattle.forests.specs.Union.{Holds}
use Rattle.forests.proofs.union_find.Classes.find.Given as goal

abbrev pub invariant-loop-up : goal.invariant-loop-up
invariant-loop-up l =
    (l.at < length l.self.parent.now) × (l.at ≤ l.x) × (l.up ≡ get_or l.self.parent.now l.at 0)
    × (length l.self.parent.now ≡ length l.initial.self.parent.now) × (l.self.parent.ghost_name ≡ l.initial.self.parent.ghost_name)
    × ((es : List Link) → Holds es l.initial.self.parent.now → Holds es l.self.parent.now × (label es l.at ≡ label es l.x))

abbrev pub decreases-loop-up : goal.decreases-loop-up
decreases-loop-up l = l.at
