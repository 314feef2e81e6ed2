use Rattle.places.proofs.Traced.{Traced}
use Rattle.places.proofs.pool.trace.Given as goal

abbrev pub invariant-loop-i : goal.invariant-loop-i
invariant-loop-i g l = Traced l.links l.batch l.i l.sources l.tracked.held.now l.tracked.present.now
