use Rattle.plans.proofs.plans_replay.Goals as goal
use Rattle.plans.proofs.Theorems.{plans-replay}

pub returns : goal.returns
returns g c =
    let m = g.met.W.Ordered in
    plans-replay g.W.Ordered.side (record { level = m.level; mirrored = m.mirrored; back = m.back; passes = m.passes })
