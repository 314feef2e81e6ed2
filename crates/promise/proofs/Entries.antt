-- The entries of a plan, as exchanges of what carries; and the bound of the work.
use Rattle.std.proofs.Common.{◌≡◌, ℕ, suc, ◌+◌, ◌*◌, ◌<◌, ◌≤◌, ◌⊎◌, List, [], ◌∷◌, length, get_or, take, drop, sym, ap, ◌∙◌, subst, ap₂, inl, inr, mul-le-mul_left, arith}
use Rattle.std.proofs.lemmas.List.{get_or_append_left}
use Rattle.std.proofs.lemmas.Bool.{cases_lt}
use Rattle.weights.specs.declared.order.Side.{Side}
use Rattle.network.specs.declared.types.Change.{Change}
use Rattle.plans.specs.Places.{table_at}
use Rattle.plans.specs.Plan.{Entry, entry, tree_by}
use Rattle.plans.specs.Work.{doublings}
use Rattle.plans.specs.Network.{Sided, graph_of, standings, by_standing, link_of, links_at, least_tree, moves_of, plan, work_count}
use Rattle.plans.specs.Theorems.{Replays, LeastPower}
use Rattle.plans.proofs.Moves.{entry_at}
use Rattle.plans.proofs.Standings.{lawful-standing, graph-numbers, graph-distinct, standings-then, moves-length}
use Rattle.plans.proofs.Present.{whole-tree}
use Rattle.plans.proofs.Theorems.{plans-replay, work-bounded}
use Rattle.planner.specs.Open.{fronted}
use Rattle.player.specs.Lay.{only}
use Rattle.promise.specs.Undo.{Exchanged}
use Rattle.promise.specs.Installation.{Network, after}
use Rattle.promise.proofs.Flags.{flags-exchanged}
use Rattle.promise.proofs.Accepted.{Accepted}
use Rattle.promise.proofs.Trees.{tree-known}

-- A change of a batch that has one.
first_of : {W : Type 0} (batch : List (Change W)) (t : ℕ) → t < length batch → Change W
first_of [] t h = absurd (omega arith)
first_of (c ∷ cs) t h = c

module _ {W : Type 0} (side : W → W → Side) (o : Sided side) (g : Network W) (batch : List (Change W))
    (a : (t : ℕ) → Accepted (after g (take t batch))) where
  abbrev entries : List Entry
  entries = plan side g.ends g.links batch

  abbrev tree_at : ℕ → List ℕ
  tree_at t = least_tree side g.ends (links_at g.links batch t)

  replays : Replays side g.n g.ends g.links batch
  replays = plans-replay side o g.n g.ends (a 0).within g.links batch

  -- The tree of a moment, over all links.
  tree-at : (t : ℕ) → tree_by (by_standing side) (table_at (standings g.links) (moves_of g.links batch) t) (graph_of g.ends) ≡ tree_at t
  tree-at t =
      ap (λ T. tree_by (by_standing side) T (graph_of g.ends)) (standings-then g.links batch t)
      ∙ whole-tree side o g.ends g.n (a 0).within (links_at g.links batch t) (a t).all

  entry-between : (t : ℕ) → t < length batch → get_or entries t (0, 0) ≡ entry (tree_at t) (tree_at (suc t))
  entry-between t h =
      let k = moves-length g.links batch in
      entry_at (by_standing side) (lawful-standing side o) (graph_of g.ends) (graph-distinct 1 g.ends) (λ e i. (graph-numbers 1 g.ends e i).0)
      (standings g.links) (moves_of g.links batch) t (0, 0) (omega arith)
      ∙ ap₂ entry (tree-at t) (tree-at (suc t))

  -- From one moment to the next, what carries differs by exactly the entry.
  pub entry-exchanged : (t : ℕ) → t < length batch
      → Exchanged (get_or entries t (0, 0)).0 (get_or entries t (0, 0)).1 (only (length g.ends) (tree_at t)) (only (length g.ends) (tree_at (suc t)))
  entry-exchanged t h =
      subst (λ (e : Entry). Exchanged e.0 e.1 (only (length g.ends) (tree_at t)) (only (length g.ends) (tree_at (suc t)))) (sym (entry-between t h))
      (flags-exchanged (length g.ends) (tree_at t) (tree_at (suc t)) (tree-known side o (after g (take t batch)) (a t))
      (tree-known side o (after g (take (suc t) batch)) (a (suc t))) (link_of (get_or batch t (first_of batch t h))) (replays.one (λ u. (a u).all) t (first_of batch t h) h))

  pub entry-names : (t : ℕ) (c : Change W) → t < length batch → (get_or entries t (0, 0) ≡ (0, 0) → ⊥)
      → ((get_or entries t (0, 0)).0 ≡ link_of (get_or batch t c)) ⊎ ((get_or entries t (0, 0)).1 ≡ link_of (get_or batch t c))
  entry-names t c h = replays.names t c h

  -- An entry, as a player reads it.
  pub entry_read : (table : List Entry) (t : ℕ) → t < length batch → get_or (fronted entries table) t (0, 0) ≡ get_or entries t (0, 0)
  entry_read table t h =
      let k = replays.many in
      get_or_append_left entries (drop (length entries) table) (0, 0) t (omega arith)

pub least-bound : {W : Type 0} (side : W → W → Side) → Sided side → (g : Network W) (batch : List (Change W)) (l : ℕ) → LeastPower (length g.ends) l
    → work_count side g.n g.ends g.links batch ≤ length g.ends + length batch + 4 * length batch * l
least-bound side o g batch l p =
    let b = work-bounded side o g.n g.ends g.links batch in
    let d = doublings (length g.ends) in
    let h : d ≤ l = elim (cases_lt l d) [ inl q ↦ let x = b.exponent.least l q in let y = p.reaches in absurd (omega arith) | inr q ↦ q ] in
    let x = b.bound in
    let y : 4 * length batch * d ≤ 4 * length batch * l = mul-le-mul_left (4 * length batch) h in
    omega arith
