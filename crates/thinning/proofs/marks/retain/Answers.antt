use Rattle.std.proofs.Common.{◌≡◌, ◌<◌, List, [], length, get_or, set, sym, ap, ◌∙◌, arith}
use Rattle.std.proofs.lemmas.List.{length-map, get_or-map, map-set}
use Rattle.std.proofs.lemmas.List.Filters.{FiltersInPlace-all, FiltersInPlace-more_no, FiltersInPlace-more_set}
use Rattle.block_records.specs.declared.Link.{Link}
use Rattle.block_records.specs.Words.{no_link, link_of, links_in}
use Rattle.forests.proofs.Greedy.{next-same}
use Rattle.thinning.proofs.Marking.{filtered-kept, under_at}
use Rattle.thinning.proofs.marks.retain.Goals as goal
use Rattle.thinning.proofs.marks.retain.Goals.{then-either_marks, else-either_marks}

pub either_marks-requires : goal.either_marks-requires
either_marks-requires c =
    let all : List Link = links_in c.args.links.now in
    let links : List Link = links_in c.loop-i.links in
    let i = c.loop-i.i in
    let la = length-map c.args.links.now link_of in
    let ll = length-map c.loop-i.links link_of in
    let at : get_or links i no_link ≡ c.from-link.result = get_or-map link_of c.loop-i.links i [] no_link (omega arith) ∙ sym c.from-link.ensures in
    let s = (next-same links all i no_link (omega arith) (omega arith) c.loop-i.invariant.rest).0 in
    let x : c.from-link.result.number ≡ (get_or all i no_link).number = ap (λ (e : Link). e.number) (sym at ∙ s) in
    rw x (under_at _ all c.requires.named i no_link (omega arith), under_at _ all c.requires.chosen i no_link (omega arith))

pub loop-i-preserved : goal.loop-i-preserved
loop-i-preserved c =
    let i = c.loop-i.i in
    let k = c.loop-i.k in
    let links : List Link = links_in c.loop-i.links in
    let e : Link = c.from-link.result in
    let ll = length-map c.loop-i.links link_of in
    let l : i < length links = omega arith in
    let r : e ≡ get_or links i e = c.from-link.ensures ∙ sym (get_or-map link_of c.loop-i.links i [] e (omega arith)) in
    elim c.if-either_marks.branch [
      | then-either_marks w ↦
          let new : links_in c.if-either_marks.links ≡ set links k e =
          ap links_in w.links-is ∙ map-set link_of c.loop-i.links k (get_or c.loop-i.links i []) ∙ ap (set links k) (sym c.from-link.ensures) in
          rw (new, w.k-is) (FiltersInPlace-more_set c.loop-i.invariant l (sym c.either_marks.ensures ∙ w.if-either_marks.true) r)
      | else-either_marks w ↦ rw (w.links-is, w.k-is) (FiltersInPlace-more_no c.loop-i.invariant l (sym c.either_marks.ensures ∙ w.if-either_marks.false) r)
    ]

pub returns-clause-kept : goal.returns-clause-kept
returns-clause-kept c =
    let la = length-map c.args.links.now link_of in
    FiltersInPlace-all c.loop-i.invariant (omega arith) ∙ filtered-kept _ _
