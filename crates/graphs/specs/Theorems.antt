-- What is proved of links, forests and thinning, as statements.
use Rattle.std.specs.Prelude.{◌≡◌, ℕ, suc, ◌+◌, ◌*◌, ◌≤◌, Bool, true, false, ◌↔◌, List, length}
use Rattle.block_records.specs.declared.Link.{Link}
use Rattle.graphs.specs.Graph.{label, joins, In, Walk}
use Rattle.graphs.specs.Forest.{Strict, Distinct, LoopFree, forest, befores, uptos}
use Rattle.graphs.specs.Spanning.{Within, AllJoined, all_joined, SpanningTree}
use Rattle.graphs.specs.Thin.{Block, holds, roots, thinned}
use Rattle.graphs.specs.Thinning.{chosen, rest, Agree}

-- What links join is decided: `joins` is true of two nodes exactly if there is a walk from one to the other.
-- A node's label is the smallest node that a walk leads to from it.
pub record Joining (es : List Link) : Type 0 where
  pub decided : (x y : ℕ) → (joins es x y ≡ true) ↔ Walk es x y
  pub reached : (x : ℕ) → Walk es x (label es x)
  pub smallest : (x y : ℕ) → Walk es x y → label es x ≤ y

abbrev pub JoinsDecided : Type 0
JoinsDecided = (es : List Link) → Joining es

-- Kruskal's forest: a link is in it exactly if the links ordered before it do not join its ends. It holds no loop, and joins what the links join.
pub record Kruskal (lt : ℕ → ℕ → Bool) (es : List Link) : Type 0 where
  pub kept : (z : Link) → In z (forest lt es) ↔ (In z es × (joins (befores lt z es) z.a.0 z.b.0 ≡ false))
  pub free : LoopFree (forest lt es)
  pub same : (x y : ℕ) → joins (forest lt es) x y ≡ joins es x y

abbrev pub ForestKept : Type 0
ForestKept = (lt : ℕ → ℕ → Bool) → Strict lt → (es : List Link) → Distinct es → Kruskal lt es

-- Counting: a node that is the smallest of those joined to it is a root. Of n nodes, loop-free links leave as many roots as they are fewer
-- than n; any links leave at least as many.
pub record Counted (n : ℕ) (es : List Link) : Type 0 where
  pub free : Distinct es → LoopFree es → roots es n + length es ≡ n
  pub any : n ≤ roots es n + length es

abbrev pub LinksCounted : Type 0
LinksCounted = (n : ℕ) (es : List Link) → Within n es → Counted n es

-- Loop-free links are at most as many as any links that join their ends.
abbrev pub LoopFreeFew : Type 0
LoopFreeFew =
    (A B : List Link) → Distinct A → LoopFree A → ((e : Link) → In e A → joins B e.a.0 e.b.0 ≡ true) → length A ≤ length B

-- The forest is the least: for each link z, every loop-free set of the links has at most as many links ordered up to z as the forest.
abbrev pub ForestLeast : Type 0
ForestLeast =
    (lt : ℕ → ℕ → Bool) → Strict lt → (es : List Link) → Distinct es → (A : List Link) → ((e : Link) → In e A → In e es) → Distinct A → LoopFree A
    → (z : Link) → length (uptos lt z A) ≤ length (uptos lt z (forest lt es))

-- Spanning trees: all have n - 1 links; the forest is one exactly if the links join all nodes, which is so exactly if it has n - 1 links,
-- and exactly if the test says so.
pub record Spanning (n : ℕ) (es : List Link) : Type 0 where
  pub size : (t : List Link) → SpanningTree n es t → suc (length t) ≡ n
  pub least : (lt : ℕ → ℕ → Bool) → Strict lt → SpanningTree n es (forest lt es) ↔ AllJoined n es
  pub many : (lt : ℕ → ℕ → Bool) → Strict lt → (suc (length (forest lt es)) ≡ n) ↔ AllJoined n es
  pub test : (all_joined n es ≡ true) ↔ AllJoined n es

abbrev pub TreesSpanning : Type 0
TreesSpanning = (n : ℕ) → 1 ≤ n → (es : List Link) → Within n es → Distinct es → Spanning n es

-- Thinning, where only the order of the named links may change: at every order, a link of the thinned graph is in its least forest exactly if
-- it is in that of the graph received; a link that is thinned away is in the least forests at all orders or in none. The thinned graph has at
-- most as many links outside the named ones as there are named links, and so at most twice as many in all.
pub record Thins (named : ℕ → Bool) (lt : ℕ → ℕ → Bool) (g : Block) : Type 0 where
  pub kept : (lt' : ℕ → ℕ → Bool) → Strict lt' → Agree named lt lt' → (k : ℕ) → holds k (thinned named lt g).links ≡ true
      → holds k (forest lt' (thinned named lt g).links) ≡ holds k (forest lt' g.links)
  pub gone : (lt' lt'' : ℕ → ℕ → Bool) → Strict lt' → Strict lt'' → Agree named lt lt' → Agree named lt lt'' → (k : ℕ)
      → holds k (thinned named lt g).links ≡ false → holds k (forest lt' g.links) ≡ holds k (forest lt'' g.links)
  pub few : length (rest named (thinned named lt g).links) ≤ length (chosen named g.links)
  pub small : length (thinned named lt g).links ≤ 2 * length (chosen named g.links)
  pub apart : Distinct (thinned named lt g).links
  pub within : Within g.nodes g.links → Within (thinned named lt g).nodes (thinned named lt g).links

abbrev pub ThinningKeeps : Type 0
ThinningKeeps = (named : ℕ → Bool) (lt : ℕ → ℕ → Bool) (g : Block) → Strict lt → Distinct g.links → Thins named lt g
