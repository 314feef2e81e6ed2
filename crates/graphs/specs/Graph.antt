-- Links as a graph: which nodes they join.
use Rattle.std.specs.Prelude.{ℕ, min, max, Bool, cond, List, [], ◌∷◌, ◌==◌}
use Rattle.block_records.specs.declared.Link.{Link}

-- The label p or q, whichever is larger, becomes the smaller one; every other label stays.
abbrev pub merged : ℕ → ℕ → ℕ → ℕ
merged p q r = cond (r == max p q) (min p q) r

-- The smallest node that the links join to x.
unfoldable pub label : List Link → ℕ → ℕ
label [] x = x
label (e ∷ es) x = merged (label es e.a.0) (label es e.b.0) (label es x)

-- Whether the links join x and y.
abbrev pub joins : List Link → ℕ → ℕ → Bool
joins es x y = label es x == label es y

-- That e is one of the links.
pub data In (e : Link) : List Link → Type 0 where
  here : {es : List Link} → In e (e ∷ es)
  later : {f : Link} {es : List Link} → In e es → In e (f ∷ es)

-- A walk from x to y over the links, each taken either way.
pub data Walk (es : List Link) : ℕ → ℕ → Type 0 where
  stay : {x : ℕ} → Walk es x x
  along : (e : Link) {y : ℕ} → In e es → Walk es e.b.0 y → Walk es e.a.0 y
  back : (e : Link) {y : ℕ} → In e es → Walk es e.a.0 y → Walk es e.b.0 y
