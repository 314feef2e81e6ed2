use Rattle.drawing.proofs.Standings.{before-told}
use Rattle.drawing.proofs.ranks.ByStandingRanking.precedes.Goals as goal

pub returns-in-Before : goal.returns-in-Before
returns-in-Before g c =
    before-told g.W.Ordered.side c.args.self.now.links.now c.args.i c.args.j c.index-self-i.result c.index-self-j.result
    c.requires.0 c.requires.1 _ _ _ _ c.from-u.ensures c.from-v.ensures c.side_of.ensures c.in-Before.is

pub returns-in-Level : goal.returns-in-Level
returns-in-Level g c =
    before-told g.W.Ordered.side c.args.self.now.links.now c.args.i c.args.j c.index-self-i.result c.index-self-j.result
    c.requires.0 c.requires.1 _ _ _ _ c.from-u.ensures c.from-v.ensures c.side_of.ensures c.in-Level.is

pub returns-in-After : goal.returns-in-After
returns-in-After g c =
    before-told g.W.Ordered.side c.args.self.now.links.now c.args.i c.args.j c.index-self-i.result c.index-self-j.result
    c.requires.0 c.requires.1 _ _ _ _ c.from-u.ensures c.from-v.ensures c.side_of.ensures c.in-After.is
