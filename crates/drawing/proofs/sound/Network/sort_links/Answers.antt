use Rattle.std.proofs.Common.{◌∙◌, arith}
use Rattle.plans.specs.Network.{Sided, link_before}
use Rattle.forests.proofs.Indexing.{indexes-shuffled}
use Rattle.forests.proofs.InOrder.{positions-ordered}
use Rattle.places.proofs.Names.{own-names}
use Rattle.drawing.specs.Ranks.{strict-links, ranks-links}
use Rattle.drawing.specs.Tree.{link_at}
use Rattle.drawing.proofs.Fits.{ends-between}
use Rattle.drawing.proofs.sound.Network.sort_links.Goals as goal

pub sort-requires-clause-ranks : goal.sort-requires-clause-ranks
sort-requires-clause-ranks g c =
    let m = g.met.W.Ordered in
    ranks-links g.W.Ordered.side (record { level = m.level; mirrored = m.mirrored; back = m.back; passes = m.passes }) c.args.self.now.links.now

pub lay_out-requires-clause-within : goal.lay_out-requires-clause-within
lay_out-requires-clause-within g c = indexes-shuffled c.args.order.now c.sort.new.order _ c.sort.ensures.shuffled c.requires.within

pub lay_out-requires-clause-named : goal.lay_out-requires-clause-named
lay_out-requires-clause-named g c = own-names c.start.new.parent c.start.ensures

pub lay_out-requires-clause-ends : goal.lay_out-requires-clause-ends
lay_out-requires-clause-ends g c = λ i l.
    let net = c.args.self.now in
    let e = ends-between net.n 1 net.ends.now net.ends_known i l in
    (omega (arith, e.0, c.requires.names), omega (arith, e.1, c.requires.names))

pub returns : goal.returns
returns g c =
    let net = c.args.self.now in
    let m = g.met.W.Ordered in
    let side = g.W.Ordered.side in
    let laws : Sided side = record { level = m.level; mirrored = m.mirrored; back = m.back; passes = m.passes } in
    c.lay_out.ensures
    ∙ positions-ordered (link_before side net.links.now) (strict-links side laws net.links.now) (link_at net.ends.now) c.args.order.now c.sort.new.order
    c.requires.apart c.sort.ensures.shuffled c.sort.ensures.sorted
