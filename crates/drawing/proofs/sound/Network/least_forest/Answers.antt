use Rattle.std.proofs.Common.{◌≡◌, [], map, length, take, sym, ap, ◌∙◌, subst, arith}
use Rattle.std.proofs.lemmas.List.{length-take-le}
use Rattle.graphs.specs.Forest.{Distinct, ordered, greedy}
use Rattle.plans.specs.Network.{graph_of, present_links, link_before}
use Rattle.forests.specs.Heap.{Indexes}
use Rattle.block_records.specs.Words.{links_in}
use Rattle.drawing.specs.Tree.{present_indexes, link_at}
use Rattle.drawing.proofs.Fits.{ends-between}
use Rattle.drawing.proofs.Present.{present-listed, present-below, present-distinct, present-ordered, ordered-ends, lent-front, front-links}
use Rattle.drawing.proofs.sound.Network.least_forest.Goals as goal

pub sort_links-requires-clause-within : goal.sort_links-requires-clause-within
sort_links-requires-clause-within g c =
    let net = c.args.self.now in
    let p = c.present_links-p.result in
    let order = c.present_links-p.new.order in
    let e : take p order ≡ present_indexes 0 net.links.now = c.present_links-p.ensures.present in
    subst (λ xs. Indexes xs (length net.ends.now)) (sym e) (λ k l. omega (arith, present-below 0 net.links.now k l, net.even))

pub sort_links-requires-clause-apart : goal.sort_links-requires-clause-apart
sort_links-requires-clause-apart g c =
    let net = c.args.self.now in
    let p = c.present_links-p.result in
    let order = c.present_links-p.new.order in
    let e : take p order ≡ present_indexes 0 net.links.now = c.present_links-p.ensures.present in
    subst Distinct (sym (ap (map (link_at net.ends.now)) e ∙ present-listed net.ends.now net.links.now (sym net.even))) (present-distinct net.ends.now net.links.now)

pub keep-requires-clause-ends : goal.keep-requires-clause-ends
keep-requires-clause-ends g c =
    let net = c.args.self.now in
    let p = c.present_links-p.result in
    let lt = link_before g.W.Ordered.side net.links.now in
    let out = c.sort_links.new.out in
    let m : length out ≡ p = c.sort_links.auto.out ∙ length-take-le p c.args.out.now (omega (arith, c.present_links-p.ensures.within, net.even, c.requires.room.1)) in
    let q : links_in out ≡ ordered lt (present_links net.links.now (graph_of net.ends.now)) =
    present-ordered net.ends.now net.links.now lt p c.present_links-p.new.order out (sym net.even) c.present_links-p.ensures.present c.sort_links.ensures in
    ordered-ends net.ends.now net.links.now lt _ _ (ap links_in (lent-front p out _ m) ∙ q) (λ i l.
    let e = ends-between net.n 1 net.ends.now net.ends_known i l in (omega (arith, e.0, c.requires.nodes), omega (arith, e.1, c.requires.nodes)))

pub returns-clause-forest : goal.returns-clause-forest
returns-clause-forest g c =
    let net = c.args.self.now in
    let p = c.present_links-p.result in
    let lt = link_before g.W.Ordered.side net.links.now in
    let out = c.sort_links.new.out in
    let m : length out ≡ p = c.sort_links.auto.out ∙ length-take-le p c.args.out.now (omega (arith, c.present_links-p.ensures.within, net.even, c.requires.room.1)) in
    let q : links_in out ≡ ordered lt (present_links net.links.now (graph_of net.ends.now)) =
    present-ordered net.ends.now net.links.now lt p c.present_links-p.new.order out (sym net.even) c.present_links-p.ensures.present c.sort_links.ensures in
    let f = lent-front p out _ m in
    let k : length c.keep.new.links ≡ p = c.keep.auto.links ∙ ap length f ∙ m in
    front-links c.keep.new.links _ c.keep.result (omega (arith, c.keep.ensures.within, ap length f, k)) ∙ c.keep.ensures.kept ∙ ap (greedy []) (ap links_in f ∙ q)
