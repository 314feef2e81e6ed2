use Rattle.promise.proofs.changes_undone.Goals as goal
use Rattle.promise.proofs.Undone.{changes-undone}

pub returns : goal.returns
returns c = changes-undone
