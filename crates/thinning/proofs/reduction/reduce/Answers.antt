use Rattle.std.proofs.Common.{◌≡◌, ℕ, [], length, take, sym, ap, ◌∙◌, arith}
use Rattle.std.proofs.lemmas.List.{take-map}
use Rattle.graphs.specs.Forest.{greedy}
use Rattle.graphs.specs.Thin.{holds}
use Rattle.block_records.specs.Words.{link_of, links_in}
use Rattle.thinning.specs.Marks.{flag}
use Rattle.thinning.proofs.Marking.{ends-below, chosen_is, under-greedy, under-numbers, holds-among, marked-flag, unmarked-flag, reduced-is}
use Rattle.thinning.proofs.reduction.reduce.Goals as goal
use Rattle.thinning.proofs.reduction.reduce.Goals.{After-keep-k, After-fill_at}

-- The others that are kept, as a table.
front : (c : After-keep-k) → links_in (take c.keep-k.result c.keep-k.new.links) ≡ greedy [] (links_in c.args.others.now)
front c = sym (take-map link_of c.keep-k.result c.keep-k.new.links) ∙ c.keep-k.ensures.kept

-- Their numbers are marked.
marks : (c : After-fill_at) (k : ℕ) → flag c.fill_at.new.marks k ≡ holds k (links_in (take c.keep-k.result c.keep-k.new.links))
marks c k = marked-flag c.fill_at.new.marks c.args.chosen.now _ k (c.fill_at.ensures k) c.requires.blank ∙ sym (holds-among k (take c.keep-k.result c.keep-k.new.links))

pub keep-k-requires-clause-ends : goal.keep-k-requires-clause-ends
keep-k-requires-clause-ends c = ends-below _ (links_in c.args.others.now) c.requires.ends

pub fill_at-requires : goal.fill_at-requires
fill_at-requires c =
    (omega arith, (omega arith, under-numbers _ _ (under-greedy (length c.args.chosen.now) [] (links_in c.args.others.now) _ (front (goal.at.fill_at-requires c).After-keep-k) c.requires.chosen.1)))

pub fill_at-requires-2 : goal.fill_at-requires-2
fill_at-requires-2 c =
    let n : length c.fill_at.new.marks ≡ length c.args.chosen.now = c.fill_at.auto.marks in
    (omega arith, (omega arith, rw n (under-numbers _ _ (under-greedy (length c.args.chosen.now) [] (links_in c.args.others.now) _ (front (goal.at.fill_at-requires-2 c).After-keep-k) c.requires.chosen.1))))

pub returns-clause-blank : goal.returns-clause-blank
returns-clause-blank c = λ k.
    unmarked-flag c.fill_at-2.new.marks c.fill_at.new.marks _ k (c.fill_at-2.ensures k) (marks (goal.at.returns-clause-blank c).After-fill_at k ∙ holds-among k (take c.keep-k.result c.keep-k.new.links))

pub returns-clause-links : goal.returns-clause-links
returns-clause-links c =
    c.retain-r.ensures.kept ∙ chosen_is c.args.named.now c.fill_at.new.marks (links_in c.args.links.now) _ (links_in c.args.others.now) (marks (goal.at.returns-clause-links c).After-fill_at) (front (goal.at.returns-clause-links c).After-keep-k)

pub returns-clause-reduced : goal.returns-clause-reduced
returns-clause-reduced c = λ lt h.
    let e = front (goal.at.returns-clause-reduced c).After-keep-k ∙ ap (greedy []) h in (
      c.retain-r.ensures.kept ∙ reduced-is c.args.named.now c.fill_at.new.marks lt (links_in c.args.links.now) _ (marks (goal.at.returns-clause-reduced c).After-fill_at) e,
      c.keep-k.ensures.kept ∙ ap (greedy []) h,
    )
