use Rattle.plans.proofs.blocks_halve.Goals as goal
use Rattle.plans.proofs.Theorems.{blocks-halve}

pub returns : goal.returns
returns g c =
    let m = g.met.W.Ordered in
    blocks-halve g.W.Ordered.side (record { level = m.level; mirrored = m.mirrored; back = m.back; passes = m.passes })
