-- A block's entries are those of its halves on the thinned graph.
use Rattle.std.proofs.Common.{◌≡◌, ℕ, true, false, ◌||◌, eqb, List, [], ◌∷◌, ◌++◌, take, drop, sym, refl, ap, ◌∙◌, ap₂, inl, inr, arith}
use Rattle.std.proofs.lemmas.List.{take-append-drop}
use Rattle.std.proofs.lemmas.Bool.{both_ways, eq-eqb, or_left, or_right}
use Rattle.std.proofs.lemmas.Bool.Decides.{nat_tests}
use Rattle.block_records.specs.declared.Link.{Link}
use Rattle.graphs.specs.Forest.{Distinct}
use Rattle.graphs.specs.Spanning.{Within}
use Rattle.graphs.specs.Thin.{Block, holds}
use Rattle.graphs.proofs.Kruskal.{forest-sub}
use Rattle.graphs.proofs.Walks.{held}
use Rattle.block_records.specs.declared.Move.{Move}
use Rattle.plans.specs.Places.{Scale, Lawful, before_by, by_place, place_before, moved, moved_by}
use Rattle.plans.specs.Plan.{forest_by, tree_by, among, Gone, first_but, Entry, entry, entries_by, entries}
use Rattle.plans.specs.Work.{named, half, thinned_by, thinned_for}
use Rattle.plans.proofs.Orders.{lawful-places}
pub use Rattle.plans.proofs.Numbers.{among-holds}
use Rattle.plans.proofs.Numbers.{numbers-in}
use Rattle.plans.proofs.Ascending.{first-or}
use Rattle.plans.proofs.Moves.{moved-agree, move-exchanges}

-- The table after moves in two parts.
pub moved-append : {V : Type 0} (table : List V) (cs ds : List (Move V)) → moved_by table (cs ++ ds) ≡ moved_by (moved_by table cs) ds
unfolding moved_by
moved-append table [] ds = refl
moved-append table (c ∷ cs) ds = moved-append (moved table c) cs ds

-- Where the same numbers go, and at most one, the first to go is the same.
first-same : (xs ys xs' ys' : List ℕ) → ((j k : ℕ) → Gone xs ys j → Gone xs ys k → j ≡ k)
    → ((k : ℕ) → Gone xs ys k → Gone xs' ys' k) → ((k : ℕ) → Gone xs' ys' k → Gone xs ys k) → first_but xs ys ≡ first_but xs' ys'
first-same xs ys xs' ys' one to from =
    elim (first-or xs ys) [
      | inl r ↦ elim (first-or xs' ys') [
        | inl s ↦ r.0 ∙ sym s.0
        | inr s ↦ let g = from (first_but xs' ys') s in absurd (both_ways (among (first_but xs' ys') ys) g.1 (r.1 (first_but xs' ys') g.0))
      ]
      | inr r ↦ elim (first-or xs' ys') [
        | inl s ↦ let g = to (first_but xs ys) r in absurd (both_ways (among (first_but xs ys) ys') g.1 (s.1 (first_but xs ys) g.0))
        | inr s ↦ one (first_but xs ys) (first_but xs' ys') r (from (first_but xs' ys') s)
      ]
    ]

-- All of the moves ds are of links that cs names.
abbrev pub Names : {V : Type 0} → List (Move V) → List (Move V) → Type 0
Names cs [] = Unit {0}
Names cs (d ∷ ds) = (named cs d.link ≡ true) × Names cs ds

names_more : {V : Type 0} (c : Move V) (cs ds : List (Move V)) → Names cs ds → Names (c ∷ cs) ds
unfolding named
names_more c cs [] n = tt
names_more c cs (d ∷ ds) n = (or_right (eqb d.link c.link) (named cs d.link) n.0, names_more c cs ds n.1)

pub names-all : {V : Type 0} (cs : List (Move V)) → Names cs cs
unfolding named
names-all [] = tt
names-all (c ∷ cs) = (or_left (eqb c.link c.link) (named cs c.link) (eq-eqb c.link c.link refl), names_more c cs cs (names-all cs))

names-append : {V : Type 0} (cs ds fs : List (Move V)) → Names cs (ds ++ fs) → Names cs ds × Names cs fs
names-append cs [] fs n = (tt, n)
names-append cs (d ∷ ds) fs n = let r = names-append cs ds fs n.1 in ((n.0, r.0), r.1)

-- What thinning keeps, as a hypothesis: whatever the values of the named links, the least forest is that of the thinned graph
-- and the merged links, which are not in the thinned graph.
pub record KeepsBy {V : Type 0} (s : Scale V) (table : List V) (cs : List (Move V)) (g : Block) (merges : List Link) : Type 0 where
  pub same : (ps : List V) → ((j k : ℕ) → named cs j ≡ false → named cs k ≡ false → before_by s table j k ≡ before_by s ps j k)
      → (k : ℕ) → holds k (forest_by s ps g.links) ≡ (holds k merges || holds k (forest_by s ps (thinned_by s table cs g).links))
  pub unmerged : (k : ℕ) → holds k (thinned_by s table cs g).links ≡ true → holds k merges ≡ false

module _ {V : Type 0} (s : Scale V) where
  -- The entries of moves in two parts.
  pub entries-append-by : (table : List V) (es : List Link) (cs ds : List (Move V))
      → entries_by s table es (cs ++ ds) ≡ entries_by s table es cs ++ entries_by s (moved_by table cs) es ds
  unfolding entries_by moved_by
  entries-append-by table es [] ds = refl
  entries-append-by table es (c ∷ cs) ds =
      ap (λ (l : List Entry). entry (tree_by s table es) (tree_by s (moved table c) es) ∷ l) (entries-append-by (moved table c) es cs ds)

  -- The entries of the first m moves and of the rest: of a top block, and of the blocks after it.
  pub entries-cut-by : (m : ℕ) (table : List V) (es : List Link) (cs : List (Move V))
      → entries_by s table es cs ≡ entries_by s table es (take m cs) ++ entries_by s (moved_by table (take m cs)) es (drop m cs)
  entries-cut-by m table es cs = ap (entries_by s table es) (sym (take-append-drop m cs)) ∙ entries-append-by table es (take m cs) (drop m cs)

module _ {V : Type 0} (s : Scale V) (table : List V) (cs : List (Move V)) where
  -- The table differs from the block's at named links only.
  abbrev pub AgreesBy : List V → Type 0
  AgreesBy ps = (j k : ℕ) → named cs j ≡ false → named cs k ≡ false → before_by s table j k ≡ before_by s ps j k

  pub agrees-moved : (ps : List V) (d : Move V) → named cs d.link ≡ true → AgreesBy ps → AgreesBy (moved ps d)
  agrees-moved ps d n a j k u v =
      a j k u v ∙ moved-agree s ps d j k (λ e. both_ways (named cs j) u (rw e n)) (λ e. both_ways (named cs k) v (rw e n))

  agrees-by : (ps : List V) (ds : List (Move V)) → Names cs ds → AgreesBy ps → AgreesBy (moved_by ps ds)
  unfolding moved_by
  agrees-by ps [] n a = a
  agrees-by ps (d ∷ ds) n a = agrees-by (moved ps d) ds n.1 (agrees-moved ps d n.0 a)

  module _ (l : Lawful s) (g : Block) (di : Distinct g.links) (ms : List Link) (keeps : KeepsBy s table cs g ms) where
    -- The same numbers go from moment to moment in the thinned graph as in the whole.
    gone-to : (ps qs : List V) → AgreesBy ps → AgreesBy qs → (k : ℕ)
        → Gone (tree_by s ps g.links) (tree_by s qs g.links) k
        → Gone (tree_by s ps (thinned_by s table cs g).links) (tree_by s qs (thinned_by s table cs g).links) k
    gone-to ps qs a b k h =
        let t = (thinned_by s table cs g).links in
        let p = among-holds k (forest_by s ps g.links) in
        let q = among-holds k (forest_by s qs g.links) in
        let p' = among-holds k (forest_by s ps t) in
        let q' = among-holds k (forest_by s qs t) in
        let u = keeps.same ps a k in
        let v = keeps.same qs b k in
        (grind (arith, nat_tests), grind (arith, nat_tests))

    gone-from : (ps qs : List V) → AgreesBy ps → AgreesBy qs → (k : ℕ)
        → Gone (tree_by s ps (thinned_by s table cs g).links) (tree_by s qs (thinned_by s table cs g).links) k
        → Gone (tree_by s ps g.links) (tree_by s qs g.links) k
    gone-from ps qs a b k h =
        let t = (thinned_by s table cs g).links in
        let p = among-holds k (forest_by s ps g.links) in
        let q = among-holds k (forest_by s qs g.links) in
        let p' = among-holds k (forest_by s ps t) in
        let q' = among-holds k (forest_by s qs t) in
        let u = keeps.same ps a k in
        let v = keeps.same qs b k in
        let r = numbers-in k (forest_by s ps t) h.0 in
        let m = keeps.unmerged k (held (forest-sub (before_by s ps) t r.0 r.1) r.2) in
        (grind (arith, nat_tests), grind (arith, nat_tests))

    pub entries-thinned-by : (ps : List V) (ds : List (Move V)) → Names cs ds → AgreesBy ps
        → entries_by s ps g.links ds ≡ entries_by s ps (thinned_by s table cs g).links ds
    unfolding entries_by
    entries-thinned-by ps [] na a = refl
    entries-thinned-by ps (d ∷ ds) na a =
        let t = (thinned_by s table cs g).links in
        let b = agrees-moved ps d na.0 a in
        let x = move-exchanges s l g.links di ps d in
        ap₂ (λ (e : Entry) (r : List Entry). e ∷ r)
        (ap₂ (λ (o c : ℕ). (o, c))
        (first-same (tree_by s ps g.links) (tree_by s (moved ps d) g.links) (tree_by s ps t) (tree_by s (moved ps d) t)
        x.leaves (gone-to ps (moved ps d) a b) (gone-from ps (moved ps d) a b))
        (first-same (tree_by s (moved ps d) g.links) (tree_by s ps g.links) (tree_by s (moved ps d) t) (tree_by s ps t)
        x.comes (gone-to (moved ps d) ps b a) (gone-from (moved ps d) ps b a)))
        (entries-thinned-by (moved ps d) ds na.1 b)

    -- A block's entries: those of its first half and of the rest, on the thinned graph, the rest with the table that the first half leaves.
    pub entries-split-by : let first = take (half cs) cs in let rest = drop (half cs) cs in let t = (thinned_by s table cs g).links in
        entries_by s table g.links cs ≡ entries_by s table t first ++ entries_by s (moved_by table first) t rest
    entries-split-by =
        let first = take (half cs) cs in
        let rest = drop (half cs) cs in
        let na = names-append cs first rest (rw (take-append-drop (half cs) cs) (names-all cs)) in
        entries-cut-by s (half cs) table g.links cs
        ∙ ap₂ (λ (l r : List Entry). l ++ r) (entries-thinned-by table first na.0 (λ j k u v. refl))
        (entries-thinned-by (moved_by table first) rest na.1 (agrees-by table first na.0 (λ j k u v. refl)))

-- By places.
abbrev pub Keeps : List ℕ → List (Move ℕ) → Block → List Link → Type 0
Keeps places cs g merges = KeepsBy by_place places cs g merges

pub entries-append : (places : List ℕ) (es : List Link) (cs ds : List (Move ℕ))
    → entries places es (cs ++ ds) ≡ entries places es cs ++ entries (moved_by places cs) es ds
entries-append = entries-append-by by_place

pub entries-cut : (m : ℕ) (places : List ℕ) (es : List Link) (cs : List (Move ℕ))
    → entries places es cs ≡ entries places es (take m cs) ++ entries (moved_by places (take m cs)) es (drop m cs)
entries-cut = entries-cut-by by_place

module _ (places : List ℕ) (cs : List (Move ℕ)) where
  abbrev pub Agrees : List ℕ → Type 0
  Agrees ps = (j k : ℕ) → named cs j ≡ false → named cs k ≡ false → place_before places j k ≡ place_before ps j k

  module _ (n : ℕ) (g : Block) (w : Within n g.links) (di : Distinct g.links) (ms : List Link) (keeps : Keeps places cs g ms) where
    pub entries-thinned : (ps : List ℕ) (ds : List (Move ℕ)) → Names cs ds → Agrees ps
        → entries ps g.links ds ≡ entries ps (thinned_for places cs g).links ds
    entries-thinned = entries-thinned-by by_place places cs lawful-places g di ms keeps

    pub entries-split : let first = take (half cs) cs in let rest = drop (half cs) cs in let t = (thinned_for places cs g).links in
        entries places g.links cs ≡ entries places t first ++ entries (moved_by places first) t rest
    entries-split = entries-split-by by_place places cs lawful-places g di ms keeps
