use Rattle.promise.proofs.Keeps.{never-broken}
use Rattle.promise.proofs.promise_kept.Goals as goal

pub returns : goal.returns
returns g c =
    let w = g.met.W.Ordered in
    never-broken g.W.Ordered.side (record { level = w.level; mirrored = w.mirrored; back = w.back; passes = w.passes }) g.F.Fabric.carrying
