use Rattle.std.proofs.Common.{◌≡◌, ℕ, ◌+◌, ◌-◌, ◌*◌, ◌^◌, ◌<◌, ◌≤◌, List, [], length, get_or, take, drop, sym, refl, ap, ◌∙◌, subst, arith}
use Rattle.std.proofs.lemmas.List.{length-map, get_or-map, map-set, map-append, take-map, drop-map}
use Rattle.block_records.specs.declared.Link.{Link}
use Rattle.block_records.specs.declared.Move.{Move}
use Rattle.plans.specs.Places.{moved}
use Rattle.plans.specs.Plan.{tree_at, entry}
use Rattle.plans.specs.Work.{half, thinned_for, block_work}
use Rattle.block_records.specs.Words.{link_of, links_in, move_of, moves_in, exchange_of, entries_in}
use Rattle.leaves.specs.declared.tally.Tally.{Tally}
use Rattle.blocks.specs.Rooms.{Scratch, Room}
use Rattle.blocks.specs.Block.{no_move, graph_of, Fits}
use Rattle.blocks.proofs.Halving.{block_of, part-fits, part_small, part-fewer, part-entries, single-moved, single-entry, single-work, work-least, slice-work, slice-entries, slice-moved, first-length, other_length, known-first, known-other, scratch-part, room-part}
use Rattle.blocks.proofs.Telling.{received, told-up, told-one, told-halves}
use Rattle.blocks.proofs.block.+block.Goals as goal
use Rattle.blocks.proofs.block.+block.Goals.{After-prepare-nodes, After-receive-met, After-from-change, After-leaf-goes, After-split_at}

-- What is left is the thinned graph.
left : (t : ℕ) (c : After-prepare-nodes t) → block_of c.prepare-nodes.result.0 (links_in (take c.prepare-nodes.result.1 c.prepare-nodes.new.own))
    ≡ thinned_for c.args.places.now (moves_in c.args.moves.now) (graph_of c.args.graph)
left t c = ap (block_of c.prepare-nodes.result.0) (sym (take-map link_of c.prepare-nodes.result.1 c.prepare-nodes.new.own)) ∙ c.prepare-nodes.ensures.thinned

-- It fits the same changes.
fits : (t : ℕ) (c : After-prepare-nodes t) → Fits c.prepare-nodes.result.0 (length c.args.places.now) (links_in (take c.prepare-nodes.result.1 c.prepare-nodes.new.own)) (moves_in c.args.moves.now)
fits t c = part-fits c.args.places.now (length c.args.places.now) c.args.graph.nodes (links_in c.args.graph.links.now) (moves_in c.args.moves.now) c.requires.fits _ _ (left t c) (moves_in c.args.moves.now) c.requires.fits.some c.requires.fits.known

small : (t : ℕ) (c : After-prepare-nodes t) → length (take c.prepare-nodes.result.1 c.prepare-nodes.new.own) ≤ 2 * length c.args.moves.now
small t c =
    let T = take c.prepare-nodes.result.1 c.prepare-nodes.new.own in
    let s = part_small c.args.places.now (length c.args.places.now) c.args.graph.nodes (links_in c.args.graph.links.now) (moves_in c.args.moves.now) c.requires.fits c.prepare-nodes.result.0 (links_in T) (left t c) in
    omega (arith, length-map T link_of, length-map c.args.moves.now move_of)

-- The tally with the links received.
met : (t : ℕ) (c : After-receive-met t) → c.receive-met.result
    ≡ record { absent = c.args.tally.absent; work = c.args.tally.work + length (links_in c.args.graph.links.now); changes = c.args.tally.changes; tear = c.args.tally.tear }
met t c = received c.args.tally c.receive-met.result (length c.args.graph.links.now) (length (links_in c.args.graph.links.now)) (length-map c.args.graph.links.now link_of) c.receive-met.ensures

pub receive-met-requires : goal.receive-met-requires
receive-met-requires t c =
    let w = work-least c.args.places.now (graph_of c.args.graph) (moves_in c.args.moves.now) in
    omega (arith, c.requires.count.0, length-map c.args.graph.links.now link_of)

-- A single change.
change : (t : ℕ) (c : After-from-change t) → c.from-change.result ≡ get_or (moves_in c.args.moves.now) 0 no_move
change t c = c.from-change.ensures ∙ sym (get_or-map move_of c.args.moves.now 0 [] no_move (omega (arith, c.if-moves-eq1.true)))

one : (t : ℕ) (c : After-from-change t) → length (moves_in c.args.moves.now) ≡ 1
one t c = length-map c.args.moves.now move_of ∙ c.if-moves-eq1.true

placed : (t : ℕ) (c : After-leaf-goes t) → c.leaf-goes.new.places ≡ moved c.args.places.now (get_or (moves_in c.args.moves.now) 0 no_move)
placed t c =
    c.leaf-goes.ensures.places
    ∙ ap (moved c.args.places.now) (c.from-change.ensures ∙ sym (get_or-map move_of c.args.moves.now 0 [] no_move (omega (arith, c.if-moves-eq1.true))))

-- The thinned graph is that of one change.
pub invariant_of-thinned : goal.invariant_of-thinned
invariant_of-thinned t c =
    let p = (goal.at.invariant_of-thinned t c).After-prepare-nodes in
    record { few = omega (arith, small t p); ascends = (fits t p).ascends }

pub leaf-goes-requires : goal.leaf-goes-requires
leaf-goes-requires t c =
    let a = ap (λ (d : Move ℕ). d.link) (change t (goal.at.leaf-goes-requires t c).After-from-change) in
    let k = c.requires.fits.known 0 c.requires.fits.some in
    record { known = (omega (arith, k.0), omega (arith, k.1)) }

pub returns-then-moves-eq1-clause-places : goal.returns-then-moves-eq1-clause-places
returns-then-moves-eq1-clause-places t c =
    placed t (goal.at.returns-then-moves-eq1-clause-places t c).After-leaf-goes
    ∙ single-moved c.args.places.now (moves_in c.args.moves.now) (one t (goal.at.returns-then-moves-eq1-clause-places t c).After-from-change)

pub returns-then-moves-eq1-clause-entries : goal.returns-then-moves-eq1-clause-entries
returns-then-moves-eq1-clause-entries t c =
    let p = goal.at.returns-then-moves-eq1-clause-entries t c in
    let ps : List ℕ = c.args.places.now in
    let cs : List (Move ℕ) = moves_in c.args.moves.now in
    let es2 : List Link = links_in (take c.prepare-nodes.result.1 c.prepare-nodes.new.own) in
    map-set exchange_of c.args.out.now 0 _
    ∙ single-entry (entries_in c.args.out.now) ps es2 cs c.leaf-goes.result (one t p.After-from-change)
    (length-map c.args.out.now exchange_of ∙ c.requires.room.entries ∙ sym (length-map c.args.moves.now move_of))
    (c.leaf-goes.ensures.entry ∙ ap (λ (x : Move ℕ). entry (tree_at ps es2) (tree_at (moved ps x) es2)) (change t p.After-from-change))
    ∙ sym (part-entries ps (length ps) c.args.graph.nodes (links_in c.args.graph.links.now) cs c.requires.fits _ es2 (left t p.After-prepare-nodes))

pub returns-then-moves-eq1-clause-told : goal.returns-then-moves-eq1-clause-told
returns-then-moves-eq1-clause-told t c =
    let p = goal.at.returns-then-moves-eq1-clause-told t c in
    let ps : List ℕ = c.args.places.now in
    let cs : List (Move ℕ) = moves_in c.args.moves.now in
    let es2 : List Link = links_in (take c.prepare-nodes.result.1 c.prepare-nodes.new.own) in
    let w = single-work ps (graph_of c.args.graph) cs (one t p.After-from-change) in
    let k : c.receive-met.result.changes ≡ c.args.tally.changes = ap (λ (r : Tally). r.changes) (met t p.After-receive-met) in
    let fits : c.receive-met.result.changes + 1 < 2 ^ 64 = omega (arith, c.requires.count.1, c.if-moves-eq1.true) in
    told-up c.args.tally c.receive-met.result c.tell.result 0 _ ps (length ps) c.args.graph.nodes (links_in c.args.graph.links.now) cs c.requires.fits _ es2
    (left t p.After-prepare-nodes) (met t p.After-receive-met) (omega arith)
    (told-one c.receive-met.result c.tell.result ps c.leaf-goes.new.places es2 cs fits (one t p.After-from-change) (placed t p.After-leaf-goes) c.tell.ensures)

-- Two changes or more: the halves as code cuts them.
more : (t : ℕ) (c : After-split_at t) → 2 ≤ length (moves_in c.args.moves.now)
more t c = omega (arith, c.requires.fits.some, c.if-moves-eq1.false, length-map c.args.moves.now move_of)

mid : (t : ℕ) (c : After-split_at t) → c.div_ceil-mid.result ≡ half (moves_in c.args.moves.now)
mid t c = omega (arith, c.div_ceil-mid.ensures, length-map c.args.moves.now move_of)

first : (t : ℕ) (c : After-split_at t) → moves_in c.split_at.result.0.now ≡ take (half (moves_in c.args.moves.now)) (moves_in c.args.moves.now)
first t c =
    ap moves_in c.split_at.ensures.front ∙ sym (take-map move_of c.div_ceil-mid.result c.args.moves.now) ∙ ap (λ n. take n (moves_in c.args.moves.now)) (mid t c)

last : (t : ℕ) (c : After-split_at t) → moves_in c.split_at.result.1.now ≡ drop (half (moves_in c.args.moves.now)) (moves_in c.args.moves.now)
last t c =
    ap moves_in c.split_at.ensures.back ∙ sym (drop-map move_of c.div_ceil-mid.result c.args.moves.now) ∙ ap (λ n. drop n (moves_in c.args.moves.now)) (mid t c)

pub block-sum-requires : goal.block-sum-requires
block-sum-requires t c =
    let p = goal.at.block-sum-requires t c in
    let ps : List ℕ = c.args.places.now in
    let cs : List (Move ℕ) = moves_in c.args.moves.now in
    let es : List Link = links_in c.args.graph.links.now in
    let n2 : ℕ = c.prepare-nodes.result.0 in
    let T : List (List ℕ) = take c.prepare-nodes.result.1 c.prepare-nodes.new.own in
    let F : List (Move ℕ) = moves_in c.split_at.result.0.now in
    let R : List (Move ℕ) = moves_in c.split_at.result.1.now in
    let G = left t p.After-prepare-nodes in
    let h = more t p.After-split_at in
    let e_f = first t p.After-split_at in
    let e_r = last t p.After-split_at in
    let l : length F ≡ length c.split_at.result.0.now = length-map c.split_at.result.0.now move_of in
    let k = length-map c.args.moves.now move_of in
    let fl : length F ≡ half cs = first-length cs F e_f h in
    let w = slice-work ps (length ps) c.args.graph.nodes es cs c.requires.fits n2 (links_in T) G F R e_f e_r _ refl h in
    let m = ap (λ (x : Tally). x.work) (met t p.After-receive-met) in
    let d = ap (λ (x : Tally). x.changes) (met t p.After-receive-met) in
    let fewer : n2 ≤ c.args.graph.nodes = part-fewer ps (length ps) c.args.graph.nodes es cs c.requires.fits n2 (links_in T) G in
    let back : length c.split_at_mut-own.result.1.now + length c.args.graph.links.now ≡ length c.args.work.now = c.split_at_mut-own.ensures.back_len in
    let kw : length c.prepare-nodes.new.spare ≡ length c.split_at_mut-own.result.1.now = c.prepare-nodes.auto.spare in
    let s = small t p.After-prepare-nodes in
    let falls : length c.split_at.result.0.now < t = omega (arith, c.decreases) in
    let fits : Fits n2 (length ps) (links_in T) F =
    part-fits ps (length ps) c.args.graph.nodes es cs c.requires.fits n2 (links_in T) G F (omega arith) (known-first (length ps) cs F e_f c.requires.fits.known) in
    let room : Room (length T) (length c.split_at.result.0.now) (length c.split_at_mut-first_out.result.0.now) (length c.prepare-nodes.new.spare) =
    room-part c.requires.room (length T) _ _ _ (length T) (omega arith) refl s (omega arith) (omega arith) (omega (arith, c.split_at_mut-first_out.ensures.front_len, c.split_at.ensures.front_len)) in
    let scratch = scratch-part (c.prepare-nodes.ensures.scratch c.args.graph.nodes c.requires.scratch) n2 fewer in
    let k0 : c.receive-met.result.work + block_work (length F) ps (block_of n2 (links_in T)) F < 2 ^ 64 = omega (arith, c.requires.count.0) in
    let k1 : c.receive-met.result.changes + length c.split_at.result.0.now < 2 ^ 64 = omega (arith, c.requires.count.1) in
    (falls, (fits, (room, (scratch, (k0, k1)))))

pub block-requires : goal.block-requires
block-requires t c =
    let p = goal.at.block-requires t c in
    let ps : List ℕ = c.args.places.now in
    let q : List ℕ = c.block-sum.new.places in
    let cs : List (Move ℕ) = moves_in c.args.moves.now in
    let es : List Link = links_in c.args.graph.links.now in
    let n2 : ℕ = c.prepare-nodes.result.0 in
    let T : List (List ℕ) = take c.prepare-nodes.result.1 c.prepare-nodes.new.own in
    let F : List (Move ℕ) = moves_in c.split_at.result.0.now in
    let R : List (Move ℕ) = moves_in c.split_at.result.1.now in
    let G = left t p.After-prepare-nodes in
    let h = more t p.After-split_at in
    let e_f = first t p.After-split_at in
    let e_r = last t p.After-split_at in
    let l : length F ≡ length c.split_at.result.0.now = length-map c.split_at.result.0.now move_of in
    let l2 : length R ≡ length c.split_at.result.1.now = length-map c.split_at.result.1.now move_of in
    let k = length-map c.args.moves.now move_of in
    let fl : length F ≡ half cs = first-length cs F e_f h in
    let ol : length R ≡ length cs - half cs = other_length cs R e_r h in
    let w = slice-work ps (length ps) c.args.graph.nodes es cs c.requires.fits n2 (links_in T) G F R e_f e_r q c.block-sum.ensures.places h in
    let m = ap (λ (x : Tally). x.work) (met t p.After-receive-met) in
    let d = ap (λ (x : Tally). x.changes) (met t p.After-receive-met) in
    let fewer : n2 ≤ c.args.graph.nodes = part-fewer ps (length ps) c.args.graph.nodes es cs c.requires.fits n2 (links_in T) G in
    let back : length c.split_at_mut-own.result.1.now + length c.args.graph.links.now ≡ length c.args.work.now = c.split_at_mut-own.ensures.back_len in
    let kw : length c.block-sum.new.work ≡ length c.split_at_mut-own.result.1.now = c.block-sum.auto.work ∙ c.prepare-nodes.auto.spare in
    let kq : length q ≡ length ps = c.block-sum.auto.places in
    let s = small t p.After-prepare-nodes in
    let falls : length c.split_at.result.1.now < t = omega (arith, c.decreases) in
    let fits : Fits n2 (length q) (links_in T) R =
    subst (λ x. Fits n2 x (links_in T) R) (sym kq) (part-fits ps (length ps) c.args.graph.nodes es cs c.requires.fits n2 (links_in T) G R (omega arith) (known-other (length ps) cs R e_r c.requires.fits.known)) in
    let room : Room (length T) (length c.split_at.result.1.now) (length c.split_at_mut-first_out.result.1.now) (length c.block-sum.new.work) =
    room-part c.requires.room (length T) _ _ _ (length T) (omega arith) refl s (omega arith) (omega arith)
    (omega (arith, c.split_at_mut-first_out.ensures.back_len, c.split_at.ensures.back_len, c.requires.room.entries)) in
    let scratch : Scratch n2 (length q) c.block-sum.new.tables =
    subst (λ x. Scratch n2 x c.block-sum.new.tables) (sym kq) (scratch-part (c.block-sum.ensures.scratch c.args.graph.nodes (c.prepare-nodes.ensures.scratch c.args.graph.nodes c.requires.scratch)) n2 fewer) in
    let k0 : c.block-sum.result.work + block_work (length R) q (block_of n2 (links_in T)) R < 2 ^ 64 = omega (arith, c.requires.count.0, c.block-sum.ensures.told.work) in
    let k1 : c.block-sum.result.changes + length c.split_at.result.1.now < 2 ^ 64 = omega (arith, c.requires.count.1, c.block-sum.ensures.told.counts) in
    (falls, (fits, (room, (scratch, (k0, k1)))))

pub returns-clause-scratch : goal.returns-clause-scratch
returns-clause-scratch t c = λ n s.
    let k : length c.block-sum.new.places ≡ length c.args.places.now = c.block-sum.auto.places in
    subst (λ x. Scratch n x c.block.new.tables) k
    (c.block.ensures.scratch n (subst (λ x. Scratch n x c.block-sum.new.tables) (sym k) (c.block-sum.ensures.scratch n (c.prepare-nodes.ensures.scratch n s))))

pub returns-clause-places : goal.returns-clause-places
returns-clause-places t c =
    let p = goal.at.returns-clause-places t c in
    c.block.ensures.places
    ∙ slice-moved c.args.places.now (length c.args.places.now) c.args.graph.nodes (links_in c.args.graph.links.now) (moves_in c.args.moves.now) c.requires.fits _ _
    (left t p.After-prepare-nodes) _ _ (first t p.After-split_at) (last t p.After-split_at) c.block-sum.new.places c.block-sum.ensures.places

pub returns-clause-entries : goal.returns-clause-entries
returns-clause-entries t c =
    let p = goal.at.returns-clause-entries t c in
    map-append exchange_of c.block-sum.new.out c.block.new.out
    ∙ slice-entries c.args.places.now (length c.args.places.now) c.args.graph.nodes (links_in c.args.graph.links.now) (moves_in c.args.moves.now) c.requires.fits _ _
    (left t p.After-prepare-nodes) _ _ (first t p.After-split_at) (last t p.After-split_at) c.block-sum.new.places c.block-sum.ensures.places
    (entries_in c.block-sum.new.out) (entries_in c.block.new.out) c.block-sum.ensures.entries c.block.ensures.entries

pub returns-clause-told : goal.returns-clause-told
returns-clause-told t c =
    let p = goal.at.returns-clause-told t c in
    let ps : List ℕ = c.args.places.now in
    let cs : List (Move ℕ) = moves_in c.args.moves.now in
    let es : List Link = links_in c.args.graph.links.now in
    let n2 : ℕ = c.prepare-nodes.result.0 in
    let es2 : List Link = links_in (take c.prepare-nodes.result.1 c.prepare-nodes.new.own) in
    let F : List (Move ℕ) = moves_in c.split_at.result.0.now in
    let R : List (Move ℕ) = moves_in c.split_at.result.1.now in
    let G = left t p.After-prepare-nodes in
    let e_f = first t p.After-split_at in
    let e_r = last t p.After-split_at in
    let w = slice-work ps (length ps) c.args.graph.nodes es cs c.requires.fits n2 es2 G F R e_f e_r c.block-sum.new.places c.block-sum.ensures.places (more t p.After-split_at) in
    told-up c.args.tally c.receive-met.result c.block.result _ _ ps (length ps) c.args.graph.nodes es cs c.requires.fits n2 es2 G (met t p.After-receive-met) (sym w)
    (told-halves c.receive-met.result c.block-sum.result c.block.result _ _ ps c.block-sum.new.places es2 cs F R e_f e_r c.block-sum.ensures.places c.block-sum.ensures.told c.block.ensures.told)
