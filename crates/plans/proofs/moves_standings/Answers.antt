use Rattle.plans.proofs.moves_standings.Goals as goal
use Rattle.plans.proofs.Standings.{standings-moved}

pub returns : goal.returns
returns g c = standings-moved
