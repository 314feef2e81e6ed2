use Rattle.std.proofs.Common.{length, sym, ◌∙◌}
use Rattle.std.proofs.lemmas.Bool.{le-ltb}
use Rattle.player.proofs.Places.{parts-look, parts-past, any_mem}
use Rattle.player.proofs.start.StartList.lists_at.Goals as goal

pub returns-then-at-self : goal.returns-then-at-self
returns-then-at-self c =
    parts-look c.args.self.now.links.now c.args.at c.args.link (c.requires c.if-self.true) c.if-at-self.true

pub returns-else-at-self : goal.returns-else-at-self
returns-else-at-self c =
    le-ltb c.args.at (length c.args.self.now.links.now) c.if-at-self.false
    ∙ sym (parts-past c.args.self.now.links.now c.args.at c.args.link (c.requires c.if-self.true) c.if-at-self.false)

pub returns-else-self : goal.returns-else-self
returns-else-self c = c.contains.ensures.value ∙ any_mem c.args.link c.args.self.now.links.now
