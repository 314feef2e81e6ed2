use Rattle.std.proofs.Common.{length, arith}
use Rattle.std.proofs.lemmas.List.{length-map}
use Rattle.block_records.specs.Words.{move_of, links_in, moves_in}
use Rattle.blocks.proofs.Batching.{work-fits}
use Rattle.blocks.proofs.batch.Goals as goal

pub top_blocks-requires-clause-count : goal.top_blocks-requires-clause-count
top_blocks-requires-clause-count c = (
  work-fits c.args.graph.nodes (length c.args.places.now) (links_in c.args.graph.links.now) (moves_in c.args.moves.now) c.args.places.now c.requires.sound c.requires.size.1 (omega (arith, c.requires.size.2, length-map c.args.moves.now move_of)),
  omega (arith, c.requires.size.2),
)
