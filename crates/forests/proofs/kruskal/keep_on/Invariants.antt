use Rattle.std.proofs.Common.{◌≡◌, ◌≤◌, List, length, drop}
use Rattle.block_records.specs.declared.Link.{Link}
use Rattle.forests.specs.Words.{links_in}
use Rattle.forests.specs.Union.{Holds}
use Rattle.forests.proofs.Greedy.{Sofar}
use Rattle.forests.proofs.kruskal.keep_on.Given as goal

abbrev pub invariant-loop-i : goal.invariant-loop-i
invariant-loop-i l =
    (l.k ≤ l.i) × (drop l.i (links_in l.links) ≡ drop l.i (links_in l.initial.links))
    × (length l.classes.parent.now ≡ length l.initial.classes.parent.now) × (l.classes.parent.ghost_name ≡ l.initial.classes.parent.ghost_name)
    × ((K : List Link) → Holds K l.initial.classes.parent.now → Sofar K (links_in l.initial.links) (links_in l.links) l.classes.parent.now l.k l.i)
