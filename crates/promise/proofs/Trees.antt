-- The least tree of a network, carried.
use Rattle.std.proofs.Common.{◌≡◌, ℕ, ◌-◌, ◌≤◌, Bool, true, List, length, take, drop, sym, ◌∙◌, subst, arith}
use Rattle.std.proofs.lemmas.List.{take-append-le, take_all}
use Rattle.weights.specs.declared.order.Side.{Side}
use Rattle.network.specs.declared.types.Ends.{Ends}
use Rattle.block_records.specs.declared.Link.{Link}
use Rattle.graphs.specs.Graph.{In}
use Rattle.graphs.specs.Forest.{upto, uptos, LoopFree}
use Rattle.graphs.proofs.Joined.{◌⊆◌, joined_in, joined-mono, joins-joined, joined-joins}
use Rattle.graphs.proofs.Lists.{filtered-sub, filtered-test, in-sift, filtered-mono, filtered-distinct, same-num}
use Rattle.graphs.proofs.Loops.{loopfree-sub}
use Rattle.graphs.proofs.Rank.{rank}
use Rattle.graphs.proofs.Trees.{tree-size}
use Rattle.plans.specs.Plan.{among}
use Rattle.plans.specs.Network.{Sided, graph_of, is_at, standing_at, least_forest, least_tree, link_before}
use Rattle.plans.specs.Theorems.{Least}
use Rattle.plans.proofs.Numbers.{in-numbers, numbers-in}
use Rattle.plans.proofs.Standings.{graph-numbers, graph-distinct}
use Rattle.plans.proofs.Present.{tree-least}
use Rattle.planner.specs.Open.{fronted}
use Rattle.fabrics.specs.Meaning.{carries}
use Rattle.player.specs.Lay.{only}
use Rattle.player.proofs.Only.{length-only}
use Rattle.promise.specs.Installation.{Network}
use Rattle.promise.specs.Promise.{present, carried, CarriesLeastTree}
use Rattle.promise.proofs.Flags.{flag}
use Rattle.promise.proofs.Accepted.{Accepted}

-- Fewer carrying links hold no loop either.
pub fewer-loops : (ends : List Ends) (c d : List Bool) → ((k : ℕ) → carries d k ≡ true → carries c k ≡ true) → LoopFree (carried ends c) → LoopFree (carried ends d)
fewer-loops ends c d h =
    loopfree-sub (λ f i.
    in-sift (λ e. carries c e.number) (filtered-sub (λ e. carries d e.number) (graph_of ends) f i)
    (h f.number (filtered-test (λ e. carries d e.number) (graph_of ends) f i)))

module _ {W : Type 0} (side : W → W → Side) (o : Sided side) (g : Network W) (a : Accepted g) where
  abbrev forest : List Link
  forest = least_forest side g.ends g.links

  abbrev tree : List ℕ
  tree = least_tree side g.ends g.links

  abbrev flags : List Bool
  flags = only (length g.ends) tree

  least : Least side g.n g.ends g.links
  least = tree-least side o g.ends g.n g.links a.all

  in_graph : forest ⊆ graph_of g.ends
  in_graph f i = filtered-sub (λ e. is_at (standing_at g.links e.number)) (graph_of g.ends) f (least.tree.chosen f i)

  pub tree-known : (k : ℕ) → among k tree ≡ true → (1 ≤ k) × (k ≤ length g.ends)
  tree-known k h =
      let r = numbers-in k forest h in
      let b = graph-numbers 1 g.ends r.0 (in_graph r.0 r.1) in
      let e = r.2 in
      let x = b.0 in
      let y = b.1 in
      (omega arith, omega arith)

  -- The carrying links are those of the least forest.
  forest-carried : forest ⊆ carried g.ends flags
  forest-carried f i =
      let m = in-numbers i in
      let b = tree-known f.number m in
      in-sift (λ e. carries flags e.number) (in_graph f i) (flag (length g.ends) tree f.number b.0 b.1 ∙ m)

  carried-forest : carried g.ends flags ⊆ forest
  carried-forest f i =
      let j = filtered-sub (λ e. carries flags e.number) (graph_of g.ends) f i in
      let b = graph-numbers 1 g.ends f j in
      let t = filtered-test (λ e. carries flags e.number) (graph_of g.ends) f i in
      let x = b.0 in
      let y = b.1 in
      let r = numbers-in f.number forest (sym (flag (length g.ends) tree f.number (omega arith) (omega arith)) ∙ t) in
      subst (λ (e : Link). In e forest) (same-num (graph_of g.ends) (graph-distinct 1 g.ends) r.0 f (in_graph r.0 r.1) j r.2) r.1

  pub tree-carried : CarriesLeastTree side g flags
  tree-carried = record {
    size = length-only (length g.ends) tree;
    tree = record {
      chosen = λ e i. least.tree.chosen e (carried-forest e i);
      apart = filtered-distinct (λ e. carries flags e.number) (graph_of g.ends) (graph-distinct 1 g.ends);
      free = loopfree-sub carried-forest least.tree.free;
      joined = λ x y p q u v. joined-joins (joined-mono forest-carried (joins-joined (least.tree.joined x y p q u v)));
    };
    least = λ z i t s.
        let lt = link_before side g.links in
        let few = least.least t s z i in
        let r = rank (uptos lt z forest) (uptos lt z (carried g.ends flags)) (filtered-distinct (upto lt z) forest least.tree.apart)
        (loopfree-sub (filtered-sub (upto lt z) forest) least.tree.free)
        (λ e j. joined_in (filtered-mono (upto lt z) forest-carried e j)) in
        omega arith;
  }

  -- The least tree has n - 1 links.
  pub tree-length : length tree ≡ g.n - 1
  tree-length =
      let s = tree-size g.n (present g) (λ e i. a.within e (filtered-sub (λ f. is_at (standing_at g.links f.number)) (graph_of g.ends) e i))
      a.some forest least.tree in
      let l = least.many in
      omega arith

  -- The start list, as a player reads it.
  pub start-read : (start : List ℕ) → take (g.n - 1) (fronted tree start) ≡ tree
  start-read start =
      rw (sym tree-length) (take-append-le (length tree) tree (drop (length tree) start) (omega arith) ∙ take_all (length tree) tree (omega arith))
