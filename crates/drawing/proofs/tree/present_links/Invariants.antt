use Rattle.std.proofs.Common.{◌≡◌, ◌≤◌, ◌++◌, take, drop}
use Rattle.drawing.specs.Tree.{present_indexes}
use Rattle.drawing.proofs.tree.present_links.Given as goal

abbrev pub invariant-loop-i : goal.invariant-loop-i
invariant-loop-i g l =
    (l.p ≤ l.i) × (take l.p l.order ++ present_indexes l.i (drop l.i l.links) ≡ present_indexes 0 l.links)
