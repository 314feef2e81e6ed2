use Rattle.std.proofs.Common.{◌≡◌, map, take}
use Rattle.block_records.specs.Words.{link_in, links_in}
use Rattle.forests.proofs.positions.pick.Given as goal

abbrev pub invariant-loop-k : goal.invariant-loop-k
invariant-loop-k l = take l.k (links_in l.out) ≡ map (link_in l.links) (take l.k l.order)
