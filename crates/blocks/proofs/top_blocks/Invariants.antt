use Rattle.std.proofs.Common.{◌-◌, take, length}
use Rattle.block_records.specs.Words.{links_in, moves_in, entries_in}
use Rattle.blocks.specs.Block.{graph_of}
use Rattle.blocks.specs.Rooms.{Scratch}
use Rattle.blocks.specs.Telling.{Told}
use Rattle.blocks.proofs.Batching.{Made}
use Rattle.blocks.proofs.Telling.{start}
use Rattle.blocks.proofs.top_blocks.Given as goal

abbrev pub invariant-loop-i : goal.invariant-loop-i
invariant-loop-i l =
    Scratch l.graph.nodes (length l.places) l.tables
    × Made l.initial.places l.places (graph_of l.graph) (moves_in l.moves) (entries_in l.out) l.tally.work l.i
    × Told (start l.absent) l.tally l.tally.work l.initial.places (links_in l.graph.links.now) (take l.i (moves_in l.moves))

abbrev pub decreases-loop-i : goal.decreases-loop-i
decreases-loop-i l = length l.moves - l.i
