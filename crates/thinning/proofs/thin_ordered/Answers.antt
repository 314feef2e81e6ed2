use Rattle.std.proofs.Common.{◌≡◌, ℕ, ◌-◌, List, [], length, take, sym, ap, ◌∙◌, subst, arith}
use Rattle.std.proofs.lemmas.List.{take-map, map-append, take-append-le, length-map}
use Rattle.block_records.specs.declared.Link.{Link}
use Rattle.graphs.specs.Forest.{ordered, filtered, greedy}
use Rattle.graphs.specs.Thin.{roots, reduced, mergeable, either, holds}
use Rattle.block_records.specs.Words.{link_of, links_in}
use Rattle.thinning.specs.Marks.{flag, unmarked, Below, Under, Ascends}
use Rattle.thinning.proofs.Marking.{below-greedy, below-filtered, under-greedy, under-filtered}
use Rattle.thinning.proofs.Merging.{ordered-reduced, ascends-distinct, ascends-reduced, block-is}
use Rattle.thinning.proofs.thin_ordered.Goals as goal
use Rattle.thinning.proofs.thin_ordered.Goals.{After-reduce-r}

-- The links and the others that are left, as tables.
links-left : (c : After-reduce-r) → links_in (take c.reduce-r.result.0 c.reduce-r.new.links)
    ≡ filtered (λ e. either (flag c.args.named.now e.number) (holds e.number (greedy [] (links_in c.args.others.now)))) (links_in c.args.links.now)
links-left c = sym (take-map link_of c.reduce-r.result.0 c.reduce-r.new.links) ∙ c.reduce-r.ensures.links

others-left : (c : After-reduce-r) → links_in (take c.reduce-r.result.1 c.reduce-r.new.others) ≡ greedy [] (links_in c.args.others.now)
others-left c = sym (take-map link_of c.reduce-r.result.1 c.reduce-r.new.others) ∙ c.reduce-r.ensures.others

pub finish-requires-clause-named : goal.finish-requires-clause-named
finish-requires-clause-named c =
    under-filtered _ _ (links_in c.args.links.now) _ (links-left (goal.at.finish-requires-clause-named c).After-reduce-r) c.requires.named

pub finish-requires-clause-chosen : goal.finish-requires-clause-chosen
finish-requires-clause-chosen c =
    let m : length c.reduce-r.new.chosen ≡ length c.args.chosen.now = c.reduce-r.auto.chosen in
    let r = (goal.at.finish-requires-clause-chosen c).After-reduce-r in
    subst (λ x. Under x (links_in (take c.reduce-r.result.0 c.reduce-r.new.links)) × Under x (links_in (take c.reduce-r.result.1 c.reduce-r.new.others))) (sym m)
    (under-filtered _ _ (links_in c.args.links.now) _ (links-left r) c.requires.chosen.0, under-greedy _ [] (links_in c.args.others.now) _ (others-left r) c.requires.chosen.1)

pub finish-requires-clause-ends : goal.finish-requires-clause-ends
finish-requires-clause-ends c =
    let n : length c.reduce-r.new.parent ≡ length c.args.nodes.now.parent.now = c.reduce-r.auto.parent in
    let r = (goal.at.finish-requires-clause-ends c).After-reduce-r in
    subst (λ x. Below x (links_in (take c.reduce-r.result.0 c.reduce-r.new.links)) × Below x (links_in (take c.reduce-r.result.1 c.reduce-r.new.others))) (sym n)
    (below-filtered _ _ (links_in c.args.links.now) _ (links-left r) c.requires.ends.0, below-greedy _ [] (links_in c.args.others.now) _ (others-left r) c.requires.ends.1)

pub returns-clause-thinned : goal.returns-clause-thinned
returns-clause-thinned c = λ lt o a h.
    let n : length c.reduce-r.new.parent ≡ length c.args.nodes.now.parent.now = c.reduce-r.auto.parent in
    let L : List Link = links_in c.args.links.now in
    let ns : List ℕ = c.args.named.now in
    let l1 : List Link = links_in (take c.reduce-r.result.0 c.reduce-r.new.links) in
    let o1 : List Link = links_in (take c.reduce-r.result.1 c.reduce-r.new.others) in
    let e = c.reduce-r.ensures.reduced lt h in
    let e1 : l1 ≡ reduced (flag ns) lt L = sym (take-map link_of c.reduce-r.result.0 c.reduce-r.new.links) ∙ e.0 in
    let a1 : Ascends l1 = subst Ascends (sym e1) (ascends-reduced (flag ns) lt L a) in
    let h1 : o1 ≡ ordered lt (unmarked ns l1) =
    sym (take-map link_of c.reduce-r.result.1 c.reduce-r.new.others) ∙ e.1 ∙ sym (ordered-reduced (flag ns) lt o L (ascends-distinct L a)) ∙ ap (λ x. ordered lt (unmarked ns x)) (sym e1) in
    let f = c.finish.ensures.finished lt o a1 h1 in
    let k = length-map c.finish.new.links link_of in
    let t = ap (take c.finish.result.1) (map-append link_of c.finish.new.links _) ∙ take-append-le c.finish.result.1 (links_in c.finish.new.links) _ (omega (arith, c.finish.ensures.within)) in
    block-is (flag ns) lt (length c.args.nodes.now.parent.now - 1) L l1 c.finish.result.0 _ e1 (f.0 ∙ ap (λ x. roots (mergeable (flag ns) lt l1) (x - 1)) n) (t ∙ f.1)
