use Rattle.std.proofs.Common.{◌≡◌, take, drop, None}
use Rattle.player.specs.Start.{list_fault}
use Rattle.player.specs.Lay.{only}
use Rattle.player.proofs.laying.light.Given as goal

abbrev pub invariant-loop-link : goal.invariant-loop-link
invariant-loop-link g l = record {
  carrying : g.F.Fabric.carrying l.fabric ≡ only l.m (take l.link-index l.start);
  sound : list_fault l.m (take l.link-index l.start) (drop l.link-index l.start) ≡ None;
  same : g.F.Fabric.shape l.fabric ≡ g.F.Fabric.shape l.initial.fabric;
}
