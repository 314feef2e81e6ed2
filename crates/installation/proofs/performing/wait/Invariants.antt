use Rattle.std.proofs.Common.{◌≡◌, take}
use Rattle.installation.specs.Perform.{Lent, fresh, calls, answers, Turns}
use Rattle.installation.proofs.performing.wait.Given as goal

abbrev pub invariant-loop-i : goal.invariant-loop-i
invariant-loop-i g l =
    (calls l.log ≡ calls l.initial.log)
    × ((t : Lent g.row.W.Denot) (f : g.row.F.Denot)
    → Turns g.W.Ordered.side g.F.Fabric.carrying t (fresh t f) (take l.i (calls l.initial.log)) (take l.i (answers l.log)) (fresh t f))
