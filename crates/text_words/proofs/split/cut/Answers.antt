use Rattle.std.proofs.Common.{sym}
use Rattle.text_words.proofs.Cutting.{cut_none, cut_at}
use Rattle.text_words.proofs.split.cut.Goals as goal

pub returns-in_err-i : goal.returns-in_err-i
returns-in_err-i c = rw c.from_residual.ensures (cut_none _ _ (sym c.in_err-i.ensures))

pub returns : goal.returns
returns c = cut_at _ _ _ (sym c.in_ok-i.ensures)
