use Rattle.graphs.proofs.joins_decided.Goals as goal
use Rattle.graphs.proofs.Theorems.{joins-decided}

pub returns : goal.returns
returns c = joins-decided
