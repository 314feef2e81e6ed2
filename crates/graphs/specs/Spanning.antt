-- Links that join all nodes, and spanning trees.
use Rattle.std.specs.Prelude.{◌≡◌, ℕ, zero, suc, ◌≤◌, Bool, true, ◌&&◌, List}
use Rattle.block_records.specs.declared.Link.{Link}
use Rattle.graphs.specs.Graph.{joins, In}
use Rattle.graphs.specs.Forest.{Distinct, LoopFree}

-- Both ends of each link are among the nodes 1 to n.
abbrev pub Within : ℕ → List Link → Type 0
Within n es = (e : Link) → In e es → (1 ≤ e.a.0) × (e.a.0 ≤ n) × (1 ≤ e.b.0) × (e.b.0 ≤ n)

-- The links join all nodes from 1 to n.
abbrev pub AllJoined : ℕ → List Link → Type 0
AllJoined n es = (x y : ℕ) → 1 ≤ x → x ≤ n → 1 ≤ y → y ≤ n → joins es x y ≡ true

-- The same as a test: they join node 1 to each.
unfoldable pub all_joined : ℕ → List Link → Bool
all_joined zero es = true
all_joined (suc n) es = joins es 1 (suc n) && all_joined n es

-- A spanning tree of some links: a choice of them, none twice, that holds no loop and joins all nodes from 1 to n.
pub record SpanningTree (n : ℕ) (es t : List Link) : Type 0 where
  pub chosen : (e : Link) → In e t → In e es
  pub apart : Distinct t
  pub free : LoopFree t
  pub joined : AllJoined n t
