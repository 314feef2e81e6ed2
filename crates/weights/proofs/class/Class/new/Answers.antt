use Rattle.std.proofs.Common.{sym, ap}
use Rattle.std.specs.Option.{ok_or}
use Rattle.weights.proofs.Making.{class_of-low}
use Rattle.faults.specs.declared.WeightFault.TheVariants.{ClassAbove}
use Rattle.weights.proofs.class.Class.new.Goals as goal

pub returns : goal.returns
returns c = sym (ap (λ o. ok_or o ClassAbove) (class_of-low _ _ _))
