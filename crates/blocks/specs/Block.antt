-- Blocks and batches as they are taken.
use Rattle.std.specs.Prelude.{◌≡◌, ℕ, ◌<◌, ◌≤◌, List, length, slice_index_or}
use Rattle.block_records.specs.declared.Link.{Link}
use Rattle.graphs.specs.Graph.{In}
use Rattle.block_records.specs.declared.Move.{Move}
use Rattle.plans.specs.Work.{work}
use Rattle.graphs.specs.Thin.{Block}
use Rattle.thinning.specs.Marks.{Ascends, Numbers}
use Rattle.block_records.specs.Words.{no_move, links_in}
use Rattle.blocks.specs.declared.tables.Graph.{Graph}
pub use Rattle.block_records.specs.Words.{no_move}

-- A graph as a block takes it.
abbrev pub graph_of : Graph → Block
graph_of g = record { nodes = g.nodes; links = links_in g.links.now }

-- The changes are to links from 1 to m.
abbrev pub Known : ℕ → List (Move ℕ) → Type 0
Known m cs = (k : ℕ) → k < length cs → (1 ≤ (slice_index_or cs k no_move).link) × ((slice_index_or cs k no_move).link ≤ m)

-- The links' ends are nodes from 1 to n.
abbrev pub Nodes : ℕ → List Link → Type 0
Nodes n es = (e : Link) → In e es → (1 ≤ e.a.0) × (e.a.0 ≤ n) × (1 ≤ e.b.0) × (e.b.0 ≤ n)

-- A block as the recursion takes it: some changes of links from 1 to m, and links with such numbers, ascending, between nodes from 1 to n.
pub record Fits (n m : ℕ) (es : List Link) (cs : List (Move ℕ)) : Type 0 where
  pub some : 0 < length cs
  pub known : Known m cs
  pub numbers : Numbers m es
  pub ascends : Ascends es
  pub ends : Nodes n es

-- A batch as it is taken: changes of links from 1 to m, and the m links, ascending, between nodes from 1 to n.
pub record Sound (n m : ℕ) (es : List Link) (cs : List (Move ℕ)) : Type 0 where
  pub many : length es ≡ m
  pub known : Known m cs
  pub numbers : Numbers m es
  pub ascends : Ascends es
  pub ends : Nodes n es

-- The work of a batch, under a name that a contract can cite beside a parameter called work.
abbrev pub total : List ℕ → Block → List (Move ℕ) → ℕ
total places g cs = work places g cs
