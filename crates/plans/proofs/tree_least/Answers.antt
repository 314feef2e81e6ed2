use Rattle.plans.proofs.tree_least.Goals as goal
use Rattle.plans.proofs.Present.{tree-least}

pub returns : goal.returns
returns g c n ends =
    let m = g.met.W.Ordered in
    tree-least g.W.Ordered.side (record { level = m.level; mirrored = m.mirrored; back = m.back; passes = m.passes }) ends n
