use Rattle.std.proofs.Common.{◌≡◌, [], take, drop}
use Rattle.player.specs.Start.{list_fault}
use Rattle.player.proofs.start.StartList.check.Given as goal

abbrev pub invariant-loop-i : goal.invariant-loop-i
invariant-loop-i l = list_fault l.m (take l.i l.self.links.now) (drop l.i l.self.links.now) ≡ list_fault l.m [] l.self.links.now
