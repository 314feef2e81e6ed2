use Rattle.forests.proofs.Rooted.{root-label, label-root}
use Rattle.forests.proofs.union_find.roots_are_labels.Goals as goal

pub returns : goal.returns
returns c = (root-label, label-root)
