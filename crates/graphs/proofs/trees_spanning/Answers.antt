use Rattle.graphs.proofs.trees_spanning.Goals as goal
use Rattle.graphs.proofs.Theorems.{trees-spanning}

pub returns : goal.returns
returns c = trees-spanning
