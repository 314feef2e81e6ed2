-- A table of parents that holds the classes of nodes that links join.
use Rattle.std.specs.Prelude.{◌≡◌, ℕ, zero, suc, ◌<◌, ◌≤◌, cond, List, length, ◌==◌, slice_index, slice_index_or}
use Rattle.block_records.specs.declared.Link.{Link}
use Rattle.graphs.specs.Graph.{label}

-- No node's parent is above it.
abbrev pub Falls : List ℕ → Type 0
Falls ps = (x : ℕ) → x < length ps → slice_index ps x ≤ x

-- The table holds the classes of es: a parent is in its node's class, and only the smallest is its own parent.
pub record Holds (es : List Link) (ps : List ℕ) : Type 0 where
  pub falls : (x : ℕ) → x < length ps → slice_index ps x ≤ x
  pub same : (x : ℕ) → x < length ps → label es (slice_index ps x) ≡ label es x
  pub top : (x : ℕ) → x < length ps → slice_index ps x ≡ x → label es x ≡ x

-- The root reached from x in at most so many steps.
unfoldable pub root_in : ℕ → List ℕ → ℕ → ℕ
root_in zero ps x = x
root_in (suc steps) ps x = cond (slice_index ps x == x) x (root_in steps ps (slice_index ps x))

-- In a table that holds the classes of es, the root reached from each node is its label;
-- and a falling table in which that is so holds the classes of es.
abbrev pub RootsAreLabels : Type 0
RootsAreLabels =
    ((es : List Link) (ps : List ℕ) → Holds es ps → (x : ℕ) → x < length ps → root_in x ps x ≡ label es x)
    × ((es : List Link) (ps : List ℕ) → Falls ps → ((x : ℕ) → x < length ps → root_in x ps x ≡ label es x) → Holds es ps)

-- The links' ends are below n.
abbrev pub Ends : ℕ → List Link → Type 0
Ends n es = (k : ℕ) → k < length es → (d : Link) → ((slice_index_or es k d).a.0 < n) × ((slice_index_or es k d).b.0 < n)
