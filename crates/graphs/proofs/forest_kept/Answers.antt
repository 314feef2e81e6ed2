use Rattle.graphs.proofs.forest_kept.Goals as goal
use Rattle.graphs.proofs.Theorems.{forest-kept}

pub returns : goal.returns
returns c = forest-kept
