use Rattle.plans.proofs.same_order.Goals as goal
use Rattle.plans.proofs.Faithful.{same-order}

pub returns : goal.returns
returns g c = same-order g.W.Ordered.side
