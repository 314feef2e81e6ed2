use Rattle.std.proofs.Common.{◌≡◌, ℕ, ◌-◌, List, [], length, take, sym, ap, ◌∙◌, subst}
use Rattle.std.proofs.lemmas.List.{take-map}
use Rattle.block_records.specs.declared.Link.{Link}
use Rattle.graphs.specs.Forest.{greedy, ordered}
use Rattle.graphs.specs.Thin.{roots, reduced, relabel, mergeable}
use Rattle.block_records.specs.Words.{link_of, links_in}
use Rattle.thinning.specs.Marks.{flag, stacked, marked, unmarked, Below, Under}
use Rattle.thinning.proofs.Marking.{below-greedy}
use Rattle.thinning.proofs.Merging.{mergeable-is, others-relabel, below-relabel, under-relabel}
use Rattle.thinning.proofs.finish.Goals as goal
use Rattle.thinning.proofs.finish.Goals.{After-merge-q}

-- The links that are merged, as a table.
front : (c : After-merge-q) → links_in (take c.merge-q.result c.merge-q.new.merged)
    ≡ greedy (stacked [] (marked c.args.named.now (links_in c.args.links.now))) (links_in c.args.others.now)
front c = sym (take-map link_of c.merge-q.result c.merge-q.new.merged) ∙ c.merge-q.ensures.merged

pub contract-n-requires : goal.contract-n-requires
contract-n-requires c =
    let n : length c.merge-q.new.parent ≡ length c.args.nodes.now.parent.now = c.merge-q.auto.parent in
    let ms : List Link = links_in (take c.merge-q.result c.merge-q.new.merged) in
    let p = length c.args.nodes.now.parent.now in
    let b : Below p ms = below-greedy p _ (links_in c.args.others.now) ms (front (goal.at.contract-n-requires c).After-merge-q) c.requires.ends.1 in
    record { ends = subst (λ m. Below m (links_in c.args.links.now) × Below m (links_in c.args.others.now) × Below m ms) (sym n) (c.requires.ends.0, c.requires.ends.1, b) }

pub reduce-r-requires-clause-named : goal.reduce-r-requires-clause-named
reduce-r-requires-clause-named c =
    subst (Under (length c.args.named.now)) (sym c.contract-n.ensures.links) (under-relabel _ (links_in (take c.merge-q.result c.merge-q.new.merged)) (links_in c.args.links.now) c.requires.named)

pub reduce-r-requires-clause-chosen : goal.reduce-r-requires-clause-chosen
reduce-r-requires-clause-chosen c =
    let ms : List Link = links_in (take c.merge-q.result c.merge-q.new.merged) in (
      subst (Under (length c.args.chosen.now)) (sym c.contract-n.ensures.links) (under-relabel _ ms (links_in c.args.links.now) c.requires.chosen.0),
      subst (Under (length c.args.chosen.now)) (sym c.contract-n.ensures.others) (under-relabel _ ms (links_in c.args.others.now) c.requires.chosen.1),
    )

pub reduce-r-requires-clause-ends : goal.reduce-r-requires-clause-ends
reduce-r-requires-clause-ends c =
    let n : length c.contract-n.new.nodes.parent.now ≡ length c.args.nodes.now.parent.now = c.contract-n.ensures.kept ∙ c.merge-q.auto.parent in
    let ms : List Link = links_in (take c.merge-q.result c.merge-q.new.merged) in
    subst (λ m. Below m (links_in c.contract-n.new.others)) (sym n) (subst (Below (length c.args.nodes.now.parent.now)) (sym c.contract-n.ensures.others) (below-relabel _ ms (links_in c.args.others.now) c.requires.ends.1))

pub returns-clause-finished : goal.returns-clause-finished
returns-clause-finished c = λ lt o a h.
    let L : List Link = links_in c.args.links.now in
    let ms : List Link = links_in (take c.merge-q.result c.merge-q.new.merged) in
    let ns : List ℕ = c.args.named.now in
    let n : length c.merge-q.new.parent ≡ length c.args.nodes.now.parent.now = c.merge-q.auto.parent in
    let el : links_in c.contract-n.new.links ≡ relabel ms L = c.contract-n.ensures.links in
    let m : ms ≡ mergeable (flag ns) lt L = front (goal.at.returns-clause-finished c).After-merge-q ∙ ap (greedy (stacked [] (marked ns L))) h ∙ mergeable-is (flag ns) lt o L a in
    let e = c.contract-n.ensures.others ∙ others-relabel (flag ns) lt ms L (links_in c.args.others.now) h in
    let w = (c.reduce-r.ensures.reduced lt (e ∙ sym (ap (λ l. ordered lt (unmarked ns l)) el))).0 in (
      c.contract-n.ensures.count ∙ ap (λ x. roots ms (x - 1)) n ∙ ap (λ x. roots x (length c.args.nodes.now.parent.now - 1)) m,
      w ∙ ap (reduced (flag ns) lt) (el ∙ ap (λ x. relabel x L) m),
    )
