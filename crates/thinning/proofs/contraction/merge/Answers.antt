use Rattle.std.proofs.Common.{rules, ◌≡◌, [], length, ap, ◌∙◌}
use Rattle.graphs.specs.Forest.{greedy}
use Rattle.block_records.specs.Words.{links_in}
use Rattle.thinning.specs.Marks.{flag, stacked, marked}
use Rattle.thinning.proofs.Marking.{ends-below}
use Rattle.thinning.proofs.contraction.merge.Goals as goal

pub keep_on-requires : goal.keep_on-requires
keep_on-requires c =
    let n : length c.join.new.classes.parent.now ≡ length c.args.parent.now = c.join.ensures.size ∙ c.new-classes.ensures.size in
    ends-below _ _ (rw (n, c.copy_from_slice.ensures.after) c.requires.ends.1)

pub returns-clause-merged : goal.returns-clause-merged
returns-clause-merged c =
    c.keep_on.ensures.kept (stacked [] (marked c.args.named.now (links_in c.args.links.now))) (c.join.ensures.joins (flag c.args.named.now) (λ e b i t. search rules) [] c.new-classes.ensures.none)
    ∙ ap (greedy (stacked [] (marked c.args.named.now (links_in c.args.links.now)))) (ap links_in c.copy_from_slice.ensures.after)
