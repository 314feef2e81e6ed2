use Rattle.std.proofs.Common.{ℕ, List, [], get_or, arith}
use Rattle.std.proofs.lemmas.List.{take_more_set, map_more, map-set, length-map}
use Rattle.block_records.specs.declared.Link.{Link}
use Rattle.block_records.specs.Words.{link_of, link_in, links_in}
use Rattle.forests.proofs.positions.pick.Goals as goal

pub loop-k-preserved : goal.loop-k-preserved
loop-k-preserved c =
    let os : List ℕ = c.args.order.now in
    let out : List Link = links_in c.loop-k.out in
    let k = c.loop-k.k in
    let n = length-map c.loop-k.out link_of in
    let t = take_more_set out k (link_in c.args.links.now (get_or os k 0)) (omega arith) in
    let m = map_more (link_in c.args.links.now) os k 0 c.loop-k-test.true in
    let s = map-set link_of c.loop-k.out k (get_or c.args.links.now (get_or os k 0) []) in
    cc c.loop-k.invariant
