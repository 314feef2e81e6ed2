use Rattle.graphs.proofs.thinning_keeps.Goals as goal
use Rattle.graphs.proofs.Theorems.{thinning-keeps}

pub returns : goal.returns
returns c = thinning-keeps
