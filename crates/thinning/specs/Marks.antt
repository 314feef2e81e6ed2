-- Marks by link number, and what the links of a block keep to.
use Rattle.std.specs.Prelude.{◌≡◌, ℕ, ◌<◌, ◌≤◌, Bool, true, false, not, List, [], ◌∷◌, ◌==◌, nat_lt, slice_index}
use Rattle.block_records.specs.declared.Link.{Link}
use Rattle.graphs.specs.Graph.{In}
use Rattle.graphs.specs.Forest.{filtered}

-- Whether the number k is marked: its word is 1.
abbrev pub flag : List ℕ → ℕ → Bool
flag marks k = slice_index marks k == 1

-- Nothing is marked.
abbrev pub Blank : List ℕ → Type 0
Blank marks = (k : ℕ) → flag marks k ≡ false

-- The links' numbers are below m.
abbrev pub Under : ℕ → List Link → Type 0
Under m es = (e : Link) → In e es → e.number < m

-- The links' ends are below n.
abbrev pub Below : ℕ → List Link → Type 0
Below n es = (e : Link) → In e es → (e.a.0 < n) × (e.b.0 < n)

-- The links that are not marked.
abbrev pub unmarked : List ℕ → List Link → List Link
unmarked marks es = filtered (λ e. not (flag marks e.number)) es

-- The marked ones.
abbrev pub marked : List ℕ → List Link → List Link
marked marks es = filtered (λ e. flag marks e.number) es

-- Links put one by one before others.
unfoldable pub stacked : List Link → List Link → List Link
stacked K [] = K
stacked K (e ∷ es) = stacked (e ∷ K) es

-- The links ascend by number.
abbrev pub Ascends : List Link → Type 0
Ascends [] = Unit {0}
Ascends (e ∷ es) = ((f : Link) → In f es → nat_lt e.number f.number ≡ true) × Ascends es

-- The links' numbers are from 1 to m.
abbrev pub Numbers : ℕ → List Link → Type 0
Numbers m es = (e : Link) → In e es → (1 ≤ e.number) × (e.number ≤ m)
