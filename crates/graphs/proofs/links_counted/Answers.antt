use Rattle.graphs.proofs.links_counted.Goals as goal
use Rattle.graphs.proofs.Theorems.{links-counted}

pub returns : goal.returns
returns c = links-counted
