use Rattle.std.proofs.Common.{arith}
use Rattle.forests.proofs.Parents.{holds-none}
use Rattle.forests.proofs.union_find.start.Goals as goal

pub returns : goal.returns
returns c = holds-none c.loop-x.parent (λ x h. c.loop-x.invariant x (omega arith))
