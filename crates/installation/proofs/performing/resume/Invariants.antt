use Rattle.std.proofs.Common.{◌≡◌, take}
use Rattle.installation.specs.Memory.{SameTables, SameBook}
use Rattle.installation.specs.Perform.{calls, answers}
use Rattle.installation.specs.Hands.{hand, Leads}
use Rattle.installation.proofs.performing.resume.Given as goal

abbrev pub invariant-loop-line : goal.invariant-loop-line
invariant-loop-line g l = record {
  run : Leads g.W.Ordered.side g.F.Fabric.carrying (hand l.initial.book l.initial.memory l.initial.state l.initial.fabric)
      (take l.line-index (calls l.initial.log)) (take l.line-index (answers l.log)) (hand l.book l.memory l.state l.fabric);
  log : calls l.log ≡ calls l.initial.log;
  lent : SameBook l.initial.book l.book;
  held : SameTables l.initial.memory l.memory;
  same : g.F.Fabric.shape l.fabric ≡ g.F.Fabric.shape l.initial.fabric;
}
