use Rattle.std.proofs.Common.{◌∙◌}
use Rattle.block_records.specs.Words.{links_in}
use Rattle.thinning.proofs.Naming.{through-relabel}
use Rattle.thinning.proofs.contraction.contract.Goals as goal

pub returns-clause-links : goal.returns-clause-links
returns-clause-links c =
    c.rename.ensures ∙ through-relabel (links_in c.args.merged.now) (links_in c.args.links.now) c.number_nodes-n.new.nodes.name.now _ c.number_nodes-n.ensures.names c.requires.ends.0

pub returns-clause-others : goal.returns-clause-others
returns-clause-others c =
    c.rename-2.ensures ∙ through-relabel (links_in c.args.merged.now) (links_in c.args.others.now) c.number_nodes-n.new.nodes.name.now _ c.number_nodes-n.ensures.names c.requires.ends.1
