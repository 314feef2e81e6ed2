use Rattle.std.proofs.Common.{◌≡◌, take}
use Rattle.block_records.specs.Words.{moves_in}
use Rattle.places.specs.Moves.{place_moves}
use Rattle.drawing.proofs.plan.list_moves.Given as goal

abbrev pub invariant-loop-i : goal.invariant-loop-i
invariant-loop-i g l = take l.i (moves_in l.moves) ≡ take l.i (place_moves l.batch l.targets)
