use Rattle.std.proofs.Common.{List, length, sym, subst, arith}
use Rattle.std.proofs.lemmas.List.{length-map}
use Rattle.block_records.specs.declared.Link.{Link}
use Rattle.graphs.specs.Forest.{Distinct}
use Rattle.graphs.proofs.Lists.{filtered-distinct}
use Rattle.block_records.specs.Words.{link_of, links_in}
use Rattle.thinning.proofs.Marking.{ascends-few}
use Rattle.thinning.proofs.Merging.{ascends-distinct}
use Rattle.thinning.proofs.order_others.Goals as goal

pub gather-r-requires-clause-room : goal.gather-r-requires-clause-room
gather-r-requires-clause-room c =
    let n = length-map c.args.links.now link_of in
    let f = ascends-few (length c.args.places.now) (links_in c.args.links.now) c.requires.numbers c.requires.ascends in
    (omega arith, omega arith)

pub sort_by_place-requires-clause-distinct : goal.sort_by_place-requires-clause-distinct
sort_by_place-requires-clause-distinct c =
    let L : List Link = links_in c.args.links.now in
    subst Distinct (sym c.gather-r.ensures.others) (filtered-distinct _ L (ascends-distinct L c.requires.ascends))
