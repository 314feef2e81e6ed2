use Rattle.plans.proofs.absent_last.Goals as goal
use Rattle.plans.proofs.Present.{absentees}

pub returns : goal.returns
returns g c n some ends w a =
    let m = g.met.W.Ordered in
    absentees g.W.Ordered.side (record { level = m.level; mirrored = m.mirrored; back = m.back; passes = m.passes }) ends n some w a
