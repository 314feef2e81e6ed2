use Rattle.std.proofs.Common.{sym, ◌∙◌}
use Rattle.block_records.specs.Words.{links_in}
use Rattle.leaves.proofs.Tearing.{torn-led, torn-any}
use Rattle.leaves.proofs.single.Thinned.torn.Goals as goal

pub returns-in-Some : goal.returns-in-Some
returns-in-Some c = c.is_late.ensures ∙ torn-led c.args.absent c.args.places.now (links_in c.args.self.links.now) c.in-Some.e (sym c.first.ensures ∙ c.in-Some.is)

pub returns-in-None : goal.returns-in-None
returns-in-None c =
    c.any_late.ensures
    ∙ torn-any c.args.absent c.args.places.now c.args.self.links.now c.args.self.few c.args.self.ascends (sym c.first.ensures ∙ c.in-None.is)
