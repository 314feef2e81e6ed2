use Rattle.graphs.proofs.forest_least.Goals as goal
use Rattle.graphs.proofs.Theorems.{forest-least}

pub returns : goal.returns
returns c = forest-least
