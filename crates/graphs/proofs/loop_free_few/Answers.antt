use Rattle.graphs.proofs.loop_free_few.Goals as goal
use Rattle.graphs.proofs.Theorems.{loop-free-few}

pub returns : goal.returns
returns c = loop-free-few
