use Rattle.std.proofs.Common.{◌≡◌, map, take}
use Rattle.block_records.specs.Words.{link_of}
use Rattle.drawing.specs.Tree.{link_at}
use Rattle.drawing.proofs.tree.lay_out.Given as goal

abbrev pub invariant-loop-j : goal.invariant-loop-j
invariant-loop-j l = map link_of (take l.j l.out) ≡ map (link_at l.ends) (take l.j l.order)
