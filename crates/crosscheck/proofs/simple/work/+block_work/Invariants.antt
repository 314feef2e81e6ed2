-- Each half of a block of two changes or more has fewer changes.
use Rattle.std.proofs.Common.{length}
use Rattle.crosscheck.proofs.simple.work.+block_work.Given as goal

abbrev pub decreases-block_work : goal.decreases-block_work
decreases-block_work l = length l.changes.now
