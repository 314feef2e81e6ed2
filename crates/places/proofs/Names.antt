-- Tables of names.
use Rattle.std.proofs.Common.{◌≡◌, ℕ, ◌<◌, List, [], length, get_or}
use Rattle.graphs.specs.Graph.{label}
use Rattle.forests.specs.Union.{Holds}

-- In a table that holds the classes of no link, each node has its own name.
pub own-names : (names : List ℕ) → Holds [] names → (x : ℕ) → x < length names → get_or names x 0 ≡ x
unfolding label
own-names names h x l = h.same x l
