use Rattle.std.proofs.Common.{◌≤◌, length, sym, subst, arith, rules}
use Rattle.graphs.specs.Forest.{Distinct}
use Rattle.plans.specs.Network.{Sided}
use Rattle.plans.proofs.Standings.{faultless-within}
use Rattle.drawing.proofs.LeastTree.{forest-apart, counted, forest-length, front-forest, table_filled}
use Rattle.drawing.proofs.sound.Network.least_tree.Goals as goal

pub returns-then-k-self-clause-joined : goal.returns-then-k-self-clause-joined
returns-then-k-self-clause-joined g c =
    let net = c.args.self.now in
    let o = g.met.W.Ordered in
    let side = g.W.Ordered.side in
    let laws : Sided side = record { level = o.level; mirrored = o.mirrored; back = o.back; passes = o.passes } in
    let k = c.least_forest-k.result in
    let out = c.least_forest-k.new.out in
    let room : k ≤ length out = search rules in
    let m = forest-length side laws net.n net.ends.now net.links.now out k room c.least_forest-k.ensures.forest in
    sym ((counted side laws net.n net.ends.now net.links.now net.nodes.0 (faultless-within net.n 1 net.ends.now net.ends_known)).1 (λ q. c.if-k-self.true (omega (arith, q, m))))

pub list_numbers-requires-clause-apart : goal.list_numbers-requires-clause-apart
list_numbers-requires-clause-apart g c =
    let net = c.args.self.now in
    let o = g.met.W.Ordered in
    let side = g.W.Ordered.side in
    let laws : Sided side = record { level = o.level; mirrored = o.mirrored; back = o.back; passes = o.passes } in
    let k = c.least_forest-k.result in
    let out = c.least_forest-k.new.out in
    let room : k ≤ length out = search rules in
    subst Distinct (sym (front-forest side laws net.n net.ends.now net.links.now out k room c.least_forest-k.ensures.forest)) (forest-apart side laws net.n net.ends.now net.links.now)

pub returns : goal.returns
returns g c =
    let net = c.args.self.now in
    let o = g.met.W.Ordered in
    let side = g.W.Ordered.side in
    let laws : Sided side = record { level = o.level; mirrored = o.mirrored; back = o.back; passes = o.passes } in
    let k = c.least_forest-k.result in
    let out = c.least_forest-k.new.out in
    let room : k ≤ length out = search rules in
    let e = c.least_forest-k.ensures.forest in
    let m = forest-length side laws net.n net.ends.now net.links.now out k room e in
    record {
      joined = sym ((counted side laws net.n net.ends.now net.links.now net.nodes.0 (faultless-within net.n 1 net.ends.now net.ends_known)).0 (omega (arith, m, c.if-k-self.false)));
      tree = table_filled side laws net.n net.ends.now net.links.now out k room e c.args.tree.now c.list_numbers.new.out c.list_numbers.ensures;
    }
