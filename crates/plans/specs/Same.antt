-- Tables and batches of two kinds of values that have the same order: places that are faithful to standings.
use Rattle.std.specs.Prelude.{◌≡◌, ℕ, ◌<◌, List, ◌++◌, map, length, nat_le, slice_index, slice_index_or}
use Rattle.weights.specs.declared.order.Side.{Side}
use Rattle.weights.specs.declared.standing.Standing.TheVariants.{Absent}
use Rattle.weights.specs.Order.{compared, stand}
use Rattle.network.specs.declared.types.LinkState.{LinkState}
use Rattle.network.specs.declared.types.Change.{Change}
use Rattle.block_records.specs.declared.Move.{Move}
use Rattle.plans.specs.Network.{standings, moves_of, is_absent}

-- All values that occur in a batch: those of the table, and those that its moves give.
abbrev pub pool : {V : Type 0} → List V → List (Move V) → List V
pool table moves = table ++ map (λ (c : Move _). c.to) moves

-- The numbers of the links that moves name, in turn.
abbrev pub movers : {V : Type 0} → List (Move V) → List ℕ
movers moves = map (λ (c : Move _). c.link) moves

-- A place table and place moves are faithful to a link table and a batch: they name the same links, and of the values that occur any two places
-- are to each other as the two standings are.
pub record Faithful {W : Type 0} (side : W → W → Side) (links : List (LinkState W)) (batch : List (Change W)) (places : List ℕ) (moves : List (Move ℕ)) : Type 0 where
  pub many : length places ≡ length links
  pub names : movers moves ≡ movers (moves_of links batch)
  pub same : (i j : ℕ) → i < length (pool places moves) → j < length (pool places moves)
      → compared (slice_index (pool places moves) i) (slice_index (pool places moves) j)
      ≡ stand side (slice_index_or (pool (standings links) (moves_of links batch)) i Absent) (slice_index_or (pool (standings links) (moves_of links batch)) j Absent)

-- The absent place: of the values that occur those at it or later are the absent ones.
abbrev pub AbsentAt : {W : Type 0} → ℕ → List (LinkState W) → List (Change W) → List ℕ → List (Move ℕ) → Type 0
AbsentAt absent links batch places moves = (i : ℕ) → i < length (pool places moves)
    → nat_le absent (slice_index (pool places moves) i) ≡ is_absent (slice_index_or (pool (standings links) (moves_of links batch)) i Absent)
