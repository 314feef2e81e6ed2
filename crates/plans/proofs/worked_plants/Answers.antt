use Rattle.plans.proofs.worked_plants.Goals as goal
use Rattle.plans.proofs.Plants.{worked}

pub returns : goal.returns
returns c = worked
