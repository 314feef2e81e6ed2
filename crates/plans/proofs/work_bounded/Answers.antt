use Rattle.plans.proofs.work_bounded.Goals as goal
use Rattle.plans.proofs.Theorems.{work-bounded}

pub returns : goal.returns
returns g c =
    let m = g.met.W.Ordered in
    work-bounded g.W.Ordered.side (record { level = m.level; mirrored = m.mirrored; back = m.back; passes = m.passes })
