use Rattle.std.proofs.Common.{length}
use Rattle.blocks.proofs.block.+block.Given as goal

abbrev pub decreases-block : goal.decreases-block
decreases-block l = length l.moves.now
