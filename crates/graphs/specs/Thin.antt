-- A block's graph, and how it is thinned.
use Rattle.std.specs.Prelude.{ℕ, zero, suc, Bool, true, false, cond, not, List, [], ◌∷◌, ◌==◌, nat_lt}
use Rattle.block_records.specs.declared.Link.{Link}
use Rattle.graphs.specs.Graph.{label}
use Rattle.graphs.specs.Forest.{forest, filtered}

-- A block's graph: its node count, and its links.
pub record Block : Type 0 where
  pub nodes : ℕ
  pub links : List Link

-- Whether one of the links has number k.
unfoldable pub holds : ℕ → List Link → Bool
holds k [] = false
holds k (e ∷ es) = cond (k == e.number) true (holds k es)

abbrev pub either : Bool → Bool → Bool
either x y = cond x true y

-- The named links, and the least forest of all others.
unfoldable pub reduced : (ℕ → Bool) → (ℕ → ℕ → Bool) → List Link → List Link
reduced named lt es =
    filtered (λ e. either (named e.number) (holds e.number (forest lt (filtered (λ f. not (named f.number)) es)))) es

-- The order in which named links come first, by number, and the others after them.
abbrev pub named_first : (ℕ → Bool) → (ℕ → ℕ → Bool) → ℕ → ℕ → Bool
named_first named lt j k =
    cond (named j) (cond (named k) (nat_lt j k) true) (cond (named k) false (lt j k))

-- The links that are merged: those of the least forest, named links first, that are not named.
unfoldable pub mergeable : (ℕ → Bool) → (ℕ → ℕ → Bool) → List Link → List Link
mergeable named lt es = filtered (λ e. not (named e.number)) (forest (named_first named lt) es)

-- How many of the nodes 1 to n are the smallest of those joined to them.
unfoldable pub roots : List Link → ℕ → ℕ
roots es zero = 0
roots es (suc n) = cond (label es (suc n) == suc n) (suc (roots es n)) (roots es n)

-- The new numbers of nodes where the ends of some links are merged: merged nodes are numbered from 1 by their smallest member.
abbrev pub renamed : List Link → ℕ → ℕ
renamed ms x = roots ms (label ms x)

-- A link with its ends renamed by any numbering; it keeps its number.
abbrev pub with_ends : (ℕ → ℕ) → Link → Link
with_ends new e = record { number = e.number; a = record { 0 = new e.a.0 }; b = record { 0 = new e.b.0 } }

-- Links with their ends renamed to the new numbers.
unfoldable pub relabel : List Link → List Link → List Link
relabel ms [] = []
relabel ms (e ∷ es) = with_ends (renamed ms) e ∷ relabel ms es

-- The ends of all mergeable links merged.
unfoldable pub contracted : (ℕ → Bool) → (ℕ → ℕ → Bool) → Block → Block
contracted named lt g =
    let ms = mergeable named lt g.links in
    record { nodes = roots ms g.nodes; links = relabel ms g.links }

-- Reduced, contracted, and reduced again.
unfoldable pub thinned : (ℕ → Bool) → (ℕ → ℕ → Bool) → Block → Block
thinned named lt g =
    let c = contracted named lt (record { nodes = g.nodes; links = reduced named lt g.links }) in
    record { nodes = c.nodes; links = reduced named lt c.links }
