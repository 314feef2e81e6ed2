-- The present links of a network, its least tree, and the first change after which the present links part.
use Rattle.std.proofs.Common.{◌≡◌, ℕ, suc, ◌+◌, ◌≤◌, Bool, true, false, cond, not, ◌||◌, eqb, ltb, ◌↔◌, List, [], ◌∷◌, length, sym, refl, ap, ◌∙◌, inl, inr, arith}
use Rattle.std.proofs.lemmas.Bool.{cases_Bool, both_ways, eqb-true, or_cases, or_parts, eq-eqb, or_left, or_right}
use Rattle.std.proofs.lemmas.Bool.Decides.{nat_tests}
use Rattle.weights.specs.declared.order.Side.{Side}
use Rattle.weights.specs.declared.standing.Standing.{Standing}
use Rattle.weights.specs.declared.standing.Standing.TheVariants.{At, Absent}
use Rattle.weights.specs.Order.{stand}
use Rattle.network.specs.declared.types.Ends.{Ends}
use Rattle.network.specs.declared.types.LinkState.{LinkState}
use Rattle.network.specs.declared.types.Change.{Change}
use Rattle.block_records.specs.declared.Link.{Link}
use Rattle.graphs.specs.Graph.{In}
use Rattle.graphs.specs.Forest.{forest}
use Rattle.graphs.specs.Spanning.{Within, AllJoined, all_joined}
use Rattle.graphs.proofs.Lists.{filtered-distinct}
use Rattle.graphs.proofs.Optimal.{forest-most}
use Rattle.graphs.proofs.Trees.{all-joined, joined_length, forest-tree}
use Rattle.plans.specs.Places.{Scale, value_of}
use Rattle.plans.specs.Plan.{numbers, among, tree_by, forest_by}
use Rattle.plans.specs.Tears.{late_by, torn_by, first_tear_by}
use Rattle.plans.specs.Network.{Sided, graph_of, is_before, is_level, standings, standing_at, is_at, is_absent, by_standing, link_before, present_links, least_forest, least_tree, changed, moves_of, parted_from, tear_of}
use Rattle.plans.specs.Theorems.{Absentees, Least}
use Rattle.plans.proofs.Orders.{strict-by}
use Rattle.plans.proofs.Numbers.{in-numbers, numbers-in, numbers-length}
use Rattle.plans.proofs.Absent.{all_pass, passing-joined-iff, passing-forest}
use Rattle.plans.proofs.Standings.{lawful-standing, graph-distinct, standings-changed}

-- Nothing that is absent is ahead of, or level with, a present link.
present-first : {W : Type 0} (side : W → W → Side) (u v : Standing W) → (is_before (stand side u v) || is_level (stand side u v)) ≡ true
    → is_at v ≡ true → is_at u ≡ true
present-first side (At u) v h k = refl
present-first side Absent (At v) h k = h
present-first side Absent Absent h k = k

-- No value of the numbers passes the test.
module _ {V : Type 0} (test : V → Bool) (s : Scale V) (table : List V) where
  late-none : (ks : List ℕ) → late_by test s table ks ≡ false → (k : ℕ) → among k ks ≡ true → test (value_of s.none table k) ≡ false
  unfolding late_by among
  late-none [] h k a = absurd (both_ways false refl a)
  late-none (x ∷ ks) h k a =
      let r = or_parts (test (value_of s.none table x)) (late_by test s table ks) h in
      elim (or_cases (eqb k x) (among k ks) a) [ inl e ↦ rw (eqb-true k x e) r.0 | inr b ↦ late-none ks r.1 k b ]

  none-late : (ks : List ℕ) → ((k : ℕ) → among k ks ≡ true → test (value_of s.none table k) ≡ false) → late_by test s table ks ≡ false
  unfolding late_by among
  none-late [] h = refl
  none-late (x ∷ ks) h =
      rw (h x (or_left (eqb x x) (among x ks) (eq-eqb x x refl))) (none-late ks (λ k a. h k (or_right (eqb k x) (among k ks) a)))

not-absent : {W : Type 0} (u : Standing W) → is_absent u ≡ false → is_at u ≡ true
not-absent (At u) h = refl
not-absent Absent h = sym h

at-present : {W : Type 0} (u : Standing W) → is_at u ≡ true → is_absent u ≡ false
at-present (At u) h = refl
at-present Absent h = sym h

module _ {W : Type 0} (side : W → W → Side) (o : Sided side) (ends : List Ends) where
  -- The least forest over all links, where the present ones join all nodes, is theirs.
  pub whole-forest : (n : ℕ) → Within n (graph_of ends) → (links : List (LinkState W)) → AllJoined n (present_links links (graph_of ends))
      → forest (link_before side links) (graph_of ends) ≡ least_forest side ends links
  whole-forest n w links a =
      let l = lawful-standing side o in
      let d = graph-distinct 1 ends in
      let P : Standing W → Bool = λ u. is_at u in
      passing-forest (by_standing side) l P (present-first side) (standings links) (graph_of ends) d
      (all_pass (by_standing side) l P (present-first side) (standings links) (graph_of ends) d n w a)

  pub whole-tree : (n : ℕ) → Within n (graph_of ends) → (links : List (LinkState W)) → AllJoined n (present_links links (graph_of ends))
      → tree_by (by_standing side) (standings links) (graph_of ends) ≡ least_tree side ends links
  whole-tree n w links a = ap numbers (whole-forest n w links a)

  -- The least tree is a spanning tree of the present links, and the least.
  pub tree-least : (n : ℕ) (links : List (LinkState W)) → AllJoined n (present_links links (graph_of ends)) → Least side n ends links
  tree-least n links a =
      let t = strict-by (by_standing side) (lawful-standing side o) (standings links) in
      let ps = present_links links (graph_of ends) in
      let d = filtered-distinct (λ e. is_at (standing_at links e.number)) (graph_of ends) (graph-distinct 1 ends) in
      record {
        tree = forest-tree n ps d (link_before side links) t a;
        least = λ u s z i. forest-most (link_before side links) t ps d u s.apart s.free s.chosen z;
        many = numbers-length (least_forest side ends links);
      }

  module _ (n : ℕ) (some : 1 ≤ n) (w : Within n (graph_of ends)) (a : AllJoined n (graph_of ends)) where
    joined-iff : (links : List (LinkState W)) → AllJoined n (present_links links (graph_of ends))
        ↔ ((f : Link) → In f (forest (link_before side links) (graph_of ends)) → is_at (standing_at links f.number) ≡ true)
    joined-iff links =
        passing-joined-iff (by_standing side) (lawful-standing side o) (λ u. is_at u) (present-first side) (standings links) (graph_of ends)
        (graph-distinct 1 ends) n w a

    -- The present links join all nodes exactly if the least forest over all links holds no absent one.
    joined-torn : (links : List (LinkState W)) → all_joined n (present_links links (graph_of ends))
        ≡ not (torn_by (λ u. is_absent u) (by_standing side) (standings links) (graph_of ends))
    joined-torn links =
        let es = graph_of ends in
        let s = by_standing side in
        let F = forest_by s (standings links) es in
        let torn = torn_by (λ u. is_absent u) s (standings links) es in
        let j = all-joined n (present_links links es) some in
        elim (cases_Bool torn) [
          | inr u ↦ j.1 ((joined-iff links).1 (λ f i.
              not-absent (standing_at links f.number) (late-none (λ u. is_absent u) s (standings links) (numbers F) u f.number (in-numbers i))))
              ∙ sym (ap not u)
          | inl u ↦ elim (cases_Bool (all_joined n (present_links links es))) [
            | inr v ↦ v ∙ sym (ap not u)
            | inl v ↦ absurd (both_ways torn (none-late (λ u. is_absent u) s (standings links) (numbers F) (λ k b.
                let r = numbers-in k F b in
                rw r.2 at (at-present (standing_at links r.0.number) ((joined-iff links).0 (j.0 v) r.0 r.1)))) u)
          ]
        ]

    parted-tear : (k : ℕ) (links : List (LinkState W)) (batch : List (Change W)) → parted_from k n ends links batch
        ≡ cond (ltb (tear_of side ends links batch) (length batch)) (k + tear_of side ends links batch) 0
    unfolding parted_from first_tear_by moves_of
    parted-tear k links [] = refl
    parted-tear k links (c ∷ cs) =
        let i = parted-tear (suc k) (changed links c) cs in
        let q = joined-torn (changed links c) in
        let e = standings-changed links c in
        rw (← e) (grind (arith, nat_tests))

    pub absentees : (links : List (LinkState W)) → Absentees side n ends links
    absentees links = record {
      many = (joined_length n (graph_of ends) w (graph-distinct 1 ends) (link_before side links)
          (strict-by (by_standing side) (lawful-standing side o) (standings links)) some).0 a;
      joined = joined-iff links;
      torn = joined-torn links;
      theirs = whole-forest n w links;
      parted = parted-tear 1 links;
    }
