use Rattle.std.proofs.Common.{refl}
use Rattle.std.proofs.Output.{has_written_append, has_written_of_eq}
use Rattle.plan_lines.proofs.Printing.{spaced-more}
use Rattle.plan_lines.proofs.output.TreeLineDisplay.fmt.Goals as goal

pub loop-link-preserved : goal.loop-link-preserved
loop-link-preserved g c = λ p.
    let so = c.loop-link.invariant p in
    let more = c.in_ok-write.ensures.writes so.plain refl in
    has_written_of_eq g.W.Write.write_str_gives _ _ _ _ (spaced-more c.args.self.now.0.now c.loop-link.link-index c.loop-link-test.true) (has_written_append g.W.Write.write_str_gives _ _ _ _ _ so more)
