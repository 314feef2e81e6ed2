-- The changes of a batch as moves of links to places.
use Rattle.std.specs.Prelude.{ℕ, ◌<◌, ◌≤◌, List, [], ◌∷◌, length, slice_index_or}
use Rattle.network.specs.declared.types.Change.{Change}
use Rattle.block_records.specs.declared.Move.{Move}
use Rattle.plans.specs.Network.{link_of}

-- The changes are to links from 1 to m.
abbrev pub Known : {W : Type 0} → ℕ → List (Change W) → Type 0
Known {W} m batch = (i : ℕ) (d : Change W) → i < length batch → (1 ≤ link_of (slice_index_or batch i d)) × (link_of (slice_index_or batch i d) ≤ m)

-- The moves of a batch: each change's link goes to its place.
unfoldable pub place_moves : {W : Type 0} → List (Change W) → List ℕ → List (Move ℕ)
place_moves [] ps = []
place_moves (c ∷ cs) [] = []
place_moves (c ∷ cs) (p ∷ ps) = record { link = link_of c; to = p } ∷ place_moves cs ps
