use Rattle.std.proofs.Common.{◌≡◌, ℕ, ◌+◌, ◌-◌, ◌≤◌, List, length, take, drop, sym, ap, ◌∙◌, subst, arith}
use Rattle.std.proofs.lemmas.List.{length-map, length-drop, length-take-le, take_all}
use Rattle.block_records.specs.declared.Move.{Move}
use Rattle.block_records.specs.Words.{move_of, links_in, moves_in, exchange_of, entries_in, link_of}
use Rattle.blocks.specs.Block.{graph_of, Known}
use Rattle.blocks.proofs.Halving.{known-take, known-drop}
use Rattle.blocks.proofs.Batching.{Top, top, top-work, made_none, made_more, made_all, written}
use Rattle.blocks.proofs.Telling.{start, told_none, told_more}
use Rattle.blocks.proofs.top_blocks.Goals as goal
use Rattle.blocks.proofs.top_blocks.Goals.{After-min-j}

-- The top block that is cut off.
cut : (c : After-min-j) → Top (links_in c.args.graph.links.now) c.args.moves.now c.loop-i.i c.min-j.result
cut c =
    let l = length-map c.args.graph.links.now link_of in
    top _ _ _ c.args.moves.now c.loop-i.i c.min-j.result c.requires.sound (omega arith) (omega arith)

pub loop-i-init : goal.loop-i-init
loop-i-init c = (
  c.requires.scratch,
  rw c.new-tally.ensures (made_none c.args.places.now (graph_of c.args.graph) (moves_in c.args.moves.now) (entries_in c.args.out.now)),
  rw c.new-tally.ensures (told_none c.args.absent c.args.places.now (links_in c.args.graph.links.now)),
)

pub block-tally-requires-clause-fits : goal.block-tally-requires-clause-fits
block-tally-requires-clause-fits c =
    let t = cut (goal.at.block-tally-requires-clause-fits c).After-min-j in
    let i = c.loop-i.i in
    let j = c.min-j.result in
    let all : List (Move ℕ) = moves_in c.args.moves.now in
    let l = length-map (take (j - i) (drop i c.args.moves.now)) move_of in
    let k : length c.loop-i.places ≡ length c.args.places.now = c.loop-i.auto.places in
    rw k (record {
      some = omega (arith, t.long, t.lt, t.some, t.end);
      known = subst (Known (length c.args.places.now)) (sym t.part) (known-take _ (j - i) (drop i all) (known-drop _ i all c.requires.sound.known));
      numbers = c.requires.sound.numbers;
      ascends = c.requires.sound.ascends;
      ends = c.requires.sound.ends;
    })

pub block-tally-requires-clause-count : goal.block-tally-requires-clause-count
block-tally-requires-clause-count c =
    let t = cut (goal.at.block-tally-requires-clause-count c).After-min-j in
    let i = c.loop-i.i in
    let j = c.min-j.result in
    let all : List (Move ℕ) = moves_in c.args.moves.now in
    let M = c.loop-i.invariant.1 in
    let w = top-work c.args.places.now c.loop-i.places (graph_of c.args.graph) all (entries_in c.loop-i.out) c.loop-i.tally.work i j M t.lt t.some t.end _ t.part in
    let n = length-map c.args.moves.now move_of in
    let k : length (take i all) ≡ i = length-take-le i all (omega (arith, t.lt)) in
    (omega (arith, c.requires.count.0, w, M.counts), omega (arith, c.requires.count.1, c.loop-i.invariant.2.counts, t.long, t.lt, t.end))

pub loop-i-smaller : goal.loop-i-smaller
loop-i-smaller c =
    let t = cut (goal.at.loop-i-smaller c).After-min-j in
    let l = length-map c.args.moves.now move_of in
    omega (arith, t.lt, t.some, t.end)

pub loop-i-preserved : goal.loop-i-preserved
loop-i-preserved c =
    let t = cut (goal.at.loop-i-preserved c).After-min-j in
    let i = c.loop-i.i in
    let j = c.min-j.result in
    let all : List (Move ℕ) = moves_in c.args.moves.now in
    let M = c.loop-i.invariant.1 in
    let k : length c.block-tally.new.places ≡ length c.loop-i.places = c.block-tally.auto.places in
    let n = length-map c.args.moves.now move_of in
    let h : i ≤ j = omega (arith, t.lt, t.end) in
    let f : i + (j - i) ≡ j = omega arith in
    let lo : length (take (j - i) (drop i c.loop-i.out)) ≡ j - i =
    length-take-le (j - i) (drop i c.loop-i.out) (omega (arith, length-drop i c.loop-i.out, c.loop-i.auto.out, c.requires.room.0, t.end)) in
    let w = written c.loop-i.out c.block-tally.new.out i j h (omega (arith, c.loop-i.auto.out, c.requires.room.0, t.lt)) (c.block-tally.auto.out ∙ lo) in (
      rw k (c.block-tally.ensures.scratch c.args.graph.nodes c.loop-i.invariant.0),
      made_more c.args.places.now c.loop-i.places (graph_of c.args.graph) all (entries_in c.loop-i.out) c.loop-i.tally.work i j M t.lt t.some t.end _ t.part
          c.block-tally.new.places _ (entries_in c.block-tally.new.out) c.block-tally.result.work w c.block-tally.ensures.places c.block-tally.ensures.entries c.block-tally.ensures.told.work,
      told_more (start c.args.absent) c.loop-i.tally c.block-tally.result _ c.args.places.now c.loop-i.places (links_in c.args.graph.links.now) all _ i j f t.part M.moves c.loop-i.invariant.2 c.block-tally.ensures.told,
    )

pub returns-clause-count : goal.returns-clause-count
returns-clause-count c =
    let n = length-map c.args.moves.now move_of in
    let o = length-map c.loop-i.out exchange_of in
    (made_all c.args.places.now c.loop-i.places (graph_of c.args.graph) (moves_in c.args.moves.now) (entries_in c.loop-i.out) c.loop-i.tally.work c.loop-i.i c.loop-i.invariant.1 (omega arith) (omega (arith, c.loop-i.auto.out, c.requires.room.0))).2

pub returns-clause-changes : goal.returns-clause-changes
returns-clause-changes c =
    let all : List (Move ℕ) = moves_in c.args.moves.now in
    let n = length-map c.args.moves.now move_of in
    let k : take c.loop-i.i all ≡ all = take_all c.loop-i.i all (omega arith) in
    omega (arith, c.loop-i.invariant.2.counts, ap length k)
