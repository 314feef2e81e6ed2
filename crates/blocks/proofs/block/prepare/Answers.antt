use Rattle.std.proofs.Common.{◌≡◌, ℕ, ◌+◌, ◌-◌, Bool, List, length, take, sym, ap, ◌∙◌, ap₂, arith}
use Rattle.std.proofs.lemmas.List.{length-take-le}
use Rattle.block_records.specs.declared.Link.{Link}
use Rattle.graphs.specs.Thin.{thinned}
use Rattle.plans.specs.Places.{place_before}
use Rattle.plans.specs.Plan.{among}
use Rattle.plans.specs.Work.{named}
use Rattle.thinning.specs.Marks.{flag}
use Rattle.block_records.specs.Words.{links_in, moves_in, numbers_in}
use Rattle.thinning.proofs.Marking.{marked-flag, unmarked-flag}
use Rattle.blocks.proofs.Halving.{named-flags, block_of}
use Rattle.blocks.proofs.Naming.{named-among, known-numbers}
use Rattle.blocks.proofs.block.prepare.Goals as goal
use Rattle.blocks.proofs.block.prepare.Goals.{After-fill_at}

pub fill_at-requires : goal.fill_at-requires
fill_at-requires c = (omega arith, (omega arith, known-numbers (length c.args.places.now) _ c.args.moves.now c.requires.fits.known (omega (arith, c.requires.scratch.marks-long))))

pub fill_at-requires-2 : goal.fill_at-requires-2
fill_at-requires-2 c = (omega arith, (omega arith, known-numbers (length c.args.places.now) _ c.args.moves.now c.requires.fits.known (omega (arith, c.requires.scratch.marks-long))))

-- The links that the changes name are marked, where nothing was.
marks : (c : After-fill_at) (k : ℕ) → flag c.fill_at.new.marks k ≡ among k (numbers_in c.args.moves.now)
marks c k = marked-flag c.fill_at.new.marks c.args.tables.now.marks.now _ k (c.fill_at.ensures k) c.requires.scratch.marks-blank

pub returns-clause-scratch : goal.returns-clause-scratch
returns-clause-scratch c = λ n s. record {
  small = s.small;
  few = s.few;
  marks-long = omega (arith, s.marks-long);
  chosen-long = omega (arith, s.chosen-long);
  parent-long = omega (arith, s.parent-long);
  name-long = omega (arith, s.name-long);
  marks-blank = λ k. unmarked-flag c.fill_at-2.new.marks c.fill_at.new.marks _ k (c.fill_at-2.ensures k) (marks (goal.at.returns-clause-scratch c).After-fill_at k);
  chosen-blank = c.thin-left.ensures.blank;
}

pub returns-clause-thinned : goal.returns-clause-thinned
returns-clause-thinned c =
    let cs = moves_in c.args.moves.now in
    let le : links_in c.copy_from_slice.new.self ≡ links_in c.args.graph.links.now = ap links_in c.copy_from_slice.ensures.after in
    let p : List ℕ = take (c.args.graph.nodes + 1) c.args.tables.now.parent.now in
    let n : length p - 1 ≡ c.args.graph.nodes = omega (arith, length-take-le (c.args.graph.nodes + 1) c.args.tables.now.parent.now (omega (arith, c.requires.scratch.parent-long))) in
    let f : flag c.fill_at.new.marks ≡ named cs =
    named-flags c.fill_at.new.marks cs (λ k. marks (goal.at.returns-clause-thinned c).After-fill_at k ∙ sym (named-among k c.args.moves.now)) in
    c.thin-left.ensures.thinned
    ∙ ap (λ (nm : ℕ → Bool). thinned nm (place_before c.args.places.now) (block_of (length p - 1) (links_in c.copy_from_slice.new.self))) f
    ∙ ap₂ (λ (x : ℕ) (l : List Link). thinned (named cs) (place_before c.args.places.now) (block_of x l)) n le
