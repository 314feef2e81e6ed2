use Rattle.std.proofs.Common.{◌≡◌, take}
use Rattle.places.specs.Pool.{states}
use Rattle.places.proofs.pool.note_states.Given as goal

abbrev pub invariant-loop-i : goal.invariant-loop-i
invariant-loop-i g l = take l.i l.present ≡ states (take l.i l.links)
