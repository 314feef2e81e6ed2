use Rattle.plant_lines.proofs.Lines.{line-bare}
use Rattle.plant_lines.proofs.line.read_line.Goals as goal

pub returns-in_default-clause-told : goal.returns-in_default-clause-told
returns-in_default-clause-told g c = line-bare g.W.Weight.made _ _ c.in_default.ensures
