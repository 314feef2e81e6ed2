use Rattle.std.proofs.Common.{rules, ◌≡◌, ◌-◌, true, List, [], length, ap, ◌∙◌, subst}
use Rattle.block_records.specs.declared.Link.{Link}
use Rattle.graphs.specs.Thin.{roots}
use Rattle.block_records.specs.Words.{links_in}
use Rattle.forests.specs.Union.{Holds}
use Rattle.thinning.specs.Marks.{stacked}
use Rattle.thinning.specs.Names.{Renames}
use Rattle.thinning.proofs.Marking.{filtered-all}
use Rattle.thinning.proofs.Stacking.{label-stacked, holds-labels}
use Rattle.thinning.proofs.contraction.number_nodes.Goals as goal
use Rattle.thinning.proofs.contraction.number_nodes.Goals.{After-join}

-- The table of parents holds the merged links.
held : (c : After-join) → Holds (links_in c.args.merged.now) c.join.new.classes.parent.now
held c =
    let ms : List Link = links_in c.args.merged.now in
    let h = c.join.ensures.joins (λ _. true) (λ e b i t. search rules) [] c.new-classes.ensures.none in
    holds-labels _ ms c.join.new.classes.parent.now (label-stacked ms) (subst (λ (es : List Link). Holds (stacked [] es) c.join.new.classes.parent.now) (filtered-all ms) h)

pub returns-clause-names : goal.returns-clause-names
returns-clause-names c =
    let n : length c.join.new.classes.parent.now ≡ length c.args.nodes.now.parent.now = c.join.ensures.size ∙ c.new-classes.ensures.size in
    subst (Renames (links_in c.args.merged.now) c.number_classes.new.name) n (c.number_classes.ensures (links_in c.args.merged.now) (held (goal.at.returns-clause-names c).After-join)).0

pub returns-clause-count : goal.returns-clause-count
returns-clause-count c =
    let n : length c.join.new.classes.parent.now ≡ length c.args.nodes.now.parent.now = c.join.ensures.size ∙ c.new-classes.ensures.size in
    (c.number_classes.ensures (links_in c.args.merged.now) (held (goal.at.returns-clause-count c).After-join)).1 ∙ ap (λ m. roots (links_in c.args.merged.now) (m - 1)) n
