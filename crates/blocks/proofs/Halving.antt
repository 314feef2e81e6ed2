-- A block and its halves.
use Rattle.std.proofs.Common.{◌≡◌, ℕ, ◌+◌, ◌-◌, ◌*◌, ◌<◌, ◌≤◌, List, [], ◌∷◌, ◌++◌, length, get_or, take, drop, set, sym, refl, ap, ◌∙◌, subst, ap₂, inl, inr, arith}
use mathlib.Core.Path.{fun_ext}
use Rattle.std.proofs.lemmas.Bool.{cases_lt}
use Rattle.std.proofs.lemmas.List.{get_or-take, get_or-drop, length-take, length-drop, take-append-drop}
use Rattle.block_records.specs.declared.Link.{Link}
use Rattle.graphs.specs.Thin.{Block, thinned, contracted}
use Rattle.graphs.specs.Thinning.{merges}
use Rattle.graphs.proofs.Thinned.{thinned-links}
use Rattle.graphs.proofs.Nodes.{thinned-within, in-thinned}
use Rattle.block_records.specs.declared.Move.{Move}
use Rattle.plans.specs.Places.{place_before, moved, moved_by}
use Rattle.plans.specs.Plan.{entries_by, tree_at, Entry, entry, entries}
use Rattle.plans.specs.Work.{named, half, thinned_for, block_work}
use Rattle.plans.proofs.Orders.{strict-places}
use Rattle.plans.proofs.Halves.{names-all, entries-thinned, entries-split, moved-append}
use Rattle.plans.proofs.Kept.{keeps-thinned, small-thinned}
use Rattle.plans.proofs.Work.{block-few, block-split}
use Rattle.thinning.specs.Marks.{flag, Ascends, Numbers}
use Rattle.thinning.proofs.Merging.{ascends-distinct, ascends-reduced, ascends-relabel, roots-low}
use Rattle.blocks.specs.Rooms.{Scratch, Room}
use Rattle.blocks.specs.Block.{no_move, Known, Nodes, Fits}
use Rattle.blocks.specs.declared.tables.Tables.{Tables}

pub named-flags : (ms : List ℕ) (cs : List (Move ℕ)) → ((k : ℕ) → flag ms k ≡ named cs k) → flag ms ≡ named cs
named-flags ms cs h = fun_ext h

module _ (places : List ℕ) (cs : List (Move ℕ)) (g : Block) (a : Ascends g.links) where
  pub thin-small : length (thinned_for places cs g).links ≤ 2 * length cs
  thin-small = (small-thinned places cs g (ascends-distinct g.links a)).0

  pub thin-ascends : Ascends (thinned_for places cs g).links
  thin-ascends =
      subst Ascends (sym (thinned-links (named cs) (place_before places) g))
      (ascends-reduced (named cs) (place_before places) _ (ascends-relabel (merges (named cs) (place_before places) g) _ (ascends-reduced (named cs) (place_before places) g.links a)))

  pub thin-numbers : (m : ℕ) → Numbers m g.links → Numbers m (thinned_for places cs g).links
  thin-numbers m h z i =
      let r = in-thinned (named cs) (place_before places) g (strict-places places) (record { distinct = ascends-distinct g.links a }) i in
      subst (λ k. (1 ≤ k) × (k ≤ m)) (ap (λ (e : Link). e.number) r.2) (h r.0 r.1)

  pub thin-nodes : Nodes g.nodes g.links → Nodes (thinned_for places cs g).nodes (thinned_for places cs g).links
  thin-nodes w = thinned-within (named cs) (place_before places) g (strict-places places) (record { distinct = ascends-distinct g.links a }) w

  pub thin-fewer : (thinned_for places cs g).nodes ≤ g.nodes
  unfolding thinned contracted
  thin-fewer = roots-low _ g.nodes

abbrev pub block_of : ℕ → List Link → Block
block_of n es = record { nodes = n; links = es }

-- What holds of a block holds of its parts.
module _ (places : List ℕ) (m n : ℕ) (es : List Link) (cs : List (Move ℕ)) (f : Fits n m es cs) (n2 : ℕ) (es2 : List Link)
    (t : block_of n2 es2 ≡ thinned_for places cs (block_of n es)) where
  pub part-fits : (ds : List (Move ℕ)) → 0 < length ds → Known m ds → Fits n2 m es2 ds
  part-fits ds s k =
      let P : Block → Type 0 = λ b. Fits b.nodes m b.links ds in
      subst P (sym t) (record {
        some = s;
        known = k;
        numbers = thin-numbers places cs (block_of n es) f.ascends m f.numbers;
        ascends = thin-ascends places cs (block_of n es) f.ascends;
        ends = thin-nodes places cs (block_of n es) f.ascends f.ends;
      })

  pub part_small : length es2 ≤ 2 * length cs
  part_small = subst (λ (b : Block). length b.links ≤ 2 * length cs) (sym t) (thin-small places cs (block_of n es) f.ascends)

  pub part-fewer : n2 ≤ n
  part-fewer = subst (λ (b : Block). b.nodes ≤ n) (sym t) (thin-fewer places cs (block_of n es) f.ascends)

  pub part-entries : entries places es cs ≡ entries places es2 cs
  part-entries =
      entries-thinned places cs n (block_of n es) f.ends (ascends-distinct es f.ascends) _ (keeps-thinned places cs (block_of n es) (ascends-distinct es f.ascends))
      places cs (names-all cs) (λ j k u v. refl)
      ∙ ap (λ (b : Block). entries places b.links cs) (sym t)

  pub part-split : entries places es cs ≡ entries places es2 (take (half cs) cs) ++ entries (moved_by places (take (half cs) cs)) es2 (drop (half cs) cs)
  part-split =
      entries-split places cs n (block_of n es) f.ends (ascends-distinct es f.ascends) _ (keeps-thinned places cs (block_of n es) (ascends-distinct es f.ascends))
      ∙ ap (λ (b : Block). entries places b.links (take (half cs) cs) ++ entries (moved_by places (take (half cs) cs)) b.links (drop (half cs) cs)) (sym t)

  pub part-work : 2 ≤ length cs → block_work (length cs) places (block_of n es) cs
      ≡ length es + (block_work (length (take (half cs) cs)) places (block_of n2 es2) (take (half cs) cs)
      + block_work (length (drop (half cs) cs)) (moved_by places (take (half cs) cs)) (block_of n2 es2) (drop (half cs) cs))
  part-work h =
      block-split places (block_of n es) cs h
      ∙ ap (λ (b : Block). length es + (block_work (length (take (half cs) cs)) places b (take (half cs) cs)
      + block_work (length (drop (half cs) cs)) (moved_by places (take (half cs) cs)) b (drop (half cs) cs))) (sym t)

pub known-take : (m k : ℕ) (cs : List (Move ℕ)) → Known m cs → Known m (take k cs)
known-take m k cs h i l =
    let n = length-take k cs in
    let e : get_or (take k cs) i no_move ≡ get_or cs i no_move = get_or-take k cs i no_move (omega arith) in
    let x = h i (omega arith) in
    subst (λ (c : Move ℕ). (1 ≤ c.link) × (c.link ≤ m)) (sym e) x

pub known-drop : (m k : ℕ) (cs : List (Move ℕ)) → Known m cs → Known m (drop k cs)
known-drop m k cs h i l =
    let n = length-drop k cs in
    let x = h (k + i) (omega arith) in
    subst (λ (c : Move ℕ). (1 ≤ c.link) × (c.link ≤ m)) (sym (get_or-drop k cs i no_move)) x

pub known-first : (m : ℕ) (cs F : List (Move ℕ)) → F ≡ take (half cs) cs → Known m cs → Known m F
known-first m cs F e h = subst (Known m) (sym e) (known-take m (half cs) cs h)

pub known-other : (m : ℕ) (cs R : List (Move ℕ)) → R ≡ drop (half cs) cs → Known m cs → Known m R
known-other m cs R e h = subst (Known m) (sym e) (known-drop m (half cs) cs h)

pub moved-halves : (places : List ℕ) (cs : List (Move ℕ)) → moved_by (moved_by places (take (half cs) cs)) (drop (half cs) cs) ≡ moved_by places cs
moved-halves places cs = sym (moved-append places (take (half cs) cs) (drop (half cs) cs)) ∙ ap (moved_by places) (take-append-drop (half cs) cs)

-- A single change.
pub single-moved : (places : List ℕ) (cs : List (Move ℕ)) → length cs ≡ 1 → moved places (get_or cs 0 no_move) ≡ moved_by places cs
unfolding moved_by
single-moved places [] h = absurd (omega arith)
single-moved places (c ∷ []) h = refl
single-moved places (c ∷ d ∷ cs) h = absurd (omega arith)

pub single-entry : (out : List Entry) (places : List ℕ) (es : List Link) (cs : List (Move ℕ)) (v : Entry) → length cs ≡ 1 → length out ≡ length cs
    → v ≡ entry (tree_at places es) (tree_at (moved places (get_or cs 0 no_move)) es) → set out 0 v ≡ entries places es cs
unfolding entries_by
single-entry [] places es cs v h l e = absurd (omega arith)
single-entry (o ∷ []) places es [] v h l e = absurd (omega arith)
single-entry (o ∷ []) places es (c ∷ []) v h l e = ap (λ (x : Entry). x ∷ []) e
single-entry (o ∷ []) places es (c ∷ d ∷ cs) v h l e = absurd (omega arith)
single-entry (o ∷ p ∷ out) places es cs v h l e = absurd (omega arith)

pub single-work : (places : List ℕ) (g : Block) (cs : List (Move ℕ)) → length cs ≡ 1 → block_work (length cs) places g cs ≡ length g.links
single-work places g cs h = block-few (length cs) places g cs (omega arith)

-- The parts of a block as code cuts them.
module _ (places : List ℕ) (m n : ℕ) (es : List Link) (cs : List (Move ℕ)) (f : Fits n m es cs) (n2 : ℕ) (es2 : List Link)
    (t : block_of n2 es2 ≡ thinned_for places cs (block_of n es)) (F R : List (Move ℕ)) (e_f : F ≡ take (half cs) cs) (e_r : R ≡ drop (half cs) cs)
    (ps : List ℕ) (p : ps ≡ moved_by places F) where
  halfway : ps ≡ moved_by places (take (half cs) cs)
  halfway = p ∙ ap (moved_by places) e_f

  pub slice-work : 2 ≤ length cs → block_work (length cs) places (block_of n es) cs
      ≡ length es + (block_work (length F) places (block_of n2 es2) F + block_work (length R) ps (block_of n2 es2) R)
  slice-work h =
      let a = ap (λ (x : List (Move ℕ)). block_work (length x) places (block_of n2 es2) x) e_f in
      let b = ap (λ (x : List (Move ℕ)). block_work (length x) ps (block_of n2 es2) x) e_r in
      let d = ap (λ (x : List ℕ). block_work (length (drop (half cs) cs)) x (block_of n2 es2) (drop (half cs) cs)) halfway in
      part-work places m n es cs f n2 es2 t h ∙ ap₂ (λ (x y : ℕ). length es + (x + y)) (sym a) (sym (b ∙ d))

  pub slice-entries : (o1 o2 : List Entry) → o1 ≡ entries places es2 F → o2 ≡ entries ps es2 R → o1 ++ o2 ≡ entries places es cs
  slice-entries o1 o2 h k =
      ap₂ (λ (x y : List Entry). x ++ y) (h ∙ ap (entries places es2) e_f) (k ∙ ap₂ (λ (x : List ℕ) (y : List (Move ℕ)). entries x es2 y) halfway e_r)
      ∙ sym (part-split places m n es cs f n2 es2 t)

  pub slice-moved : moved_by ps R ≡ moved_by places cs
  slice-moved = ap₂ (λ (x : List ℕ) (y : List (Move ℕ)). moved_by x y) halfway e_r ∙ moved-halves places cs

pub first-length : (cs F : List (Move ℕ)) → F ≡ take (half cs) cs → 2 ≤ length cs → length F ≡ half cs
first-length cs F e h = let n = length-take (half cs) cs in let l = ap length e in omega arith

pub other_length : (cs R : List (Move ℕ)) → R ≡ drop (half cs) cs → 2 ≤ length cs → length R ≡ length cs - half cs
other_length cs R e h = let d = length-drop (half cs) cs in let l = ap length e in omega arith

-- The tables serve a part as well.
pub scratch-part : {n m : ℕ} {t : Tables} → Scratch n m t → (n2 : ℕ) → n2 ≤ n → Scratch n2 m t
scratch-part s n2 a = record {
  small = omega (arith, s.small);
  few = s.few;
  marks-long = s.marks-long;
  chosen-long = s.chosen-long;
  parent-long = omega (arith, s.parent-long);
  name-long = omega (arith, s.name-long);
  marks-blank = s.marks-blank;
  chosen-blank = s.chosen-blank;
}

pub room-part : {base changes out work : ℕ} → Room base changes out work → (base2 changes2 out2 rest r : ℕ) → rest + base ≡ work → base2 ≡ r → r ≤ 2 * changes
    → 2 ≤ changes → changes2 * 2 ≤ changes + 1 → out2 ≡ changes2 → Room base2 changes2 out2 rest
room-part h base2 changes2 out2 rest r a b c d e f = record { entries = f; copies = omega (arith, h.deeper); deeper = omega (arith, h.deeper) }

pub work-least : (places : List ℕ) (g : Block) (cs : List (Move ℕ)) → length g.links ≤ block_work (length cs) places g cs
work-least places g cs = elim (cases_lt (length cs) 2) [
  | inl h ↦ let e = block-few (length cs) places g cs (omega arith) in omega arith
  | inr h ↦ let e = block-split places g cs h in omega arith
]
