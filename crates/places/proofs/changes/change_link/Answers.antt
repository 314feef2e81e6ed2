use Rattle.places.proofs.Commits.{change-told}
use Rattle.places.proofs.changes.change_link.Goals as goal

pub returns : goal.returns
returns g c =
    change-told c.args.links.now c.args.change c.link_of.result c.index-links-i.result c.changed_link.result
    c.requires.0 c.requires.1 c.link_of.ensures c.index-links-i.is c.changed_link.ensures
