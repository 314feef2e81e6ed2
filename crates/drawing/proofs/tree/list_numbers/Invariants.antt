use Rattle.std.proofs.Common.{◌≡◌, map, take}
use Rattle.block_records.specs.Words.{link_of}
use Rattle.drawing.proofs.tree.list_numbers.Given as goal

abbrev pub invariant-loop-j : goal.invariant-loop-j
invariant-loop-j l = take l.j l.out ≡ map (λ w. (link_of w).number) (take l.j l.links)
