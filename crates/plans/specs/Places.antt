-- Values by which links are ordered (places, or how links stand in a network), tables of them, and moves of links to other values.
use Rattle.std.specs.Prelude.{◌≡◌, ℕ, zero, suc, Bool, true, false, not, ◌&&◌, ◌||◌, List, [], ◌∷◌, take, nat_eq, nat_lt, slice_index_or, slice_set}
use Rattle.block_records.specs.declared.Move.{Move}

-- A scale of values: whether one is ahead of another, whether two are level, and the value of a number that is no link's.
pub record Scale (V : Type 0) : Type 0 where
  pub ahead : V → V → Bool
  pub level : V → V → Bool
  pub none : V

-- What a scale must keep to: of two values not both are ahead of each other; what is ahead of a third value is ahead of any value between
-- or has it ahead of the third; level are those of which none is ahead.
pub record Lawful {V : Type 0} (s : Scale V) : Type 0 where
  pub opposed : (u v : V) → s.ahead u v ≡ true → s.ahead v u ≡ false
  pub between : (u v w : V) → s.ahead u w ≡ true → (s.ahead u v || s.ahead v w) ≡ true
  pub tied : (u v : V) → s.level u v ≡ (not (s.ahead u v) && not (s.ahead v u))

-- A table has the value of link k at position k - 1. The number 0 is no link.
unfoldable pub value_of : {V : Type 0} → V → List V → ℕ → V
value_of none table zero = none
value_of none table (suc k) = slice_index_or table k none

-- Link j is ordered before link k: its value is ahead, or the values are level and j is smaller.
abbrev pub before_by : {V : Type 0} → Scale V → List V → ℕ → ℕ → Bool
before_by s table j k =
    s.ahead (value_of s.none table j) (value_of s.none table k) || (s.level (value_of s.none table j) (value_of s.none table k) && nat_lt j k)

-- The table with a new value for link k.
unfoldable pub placed_at : {V : Type 0} → List V → ℕ → V → List V
placed_at table zero v = table
placed_at table (suc k) v = slice_set table k v

-- The table after a move; after several, in turn.
abbrev pub moved : {V : Type 0} → List V → Move V → List V
moved table c = placed_at table c.link c.to

unfoldable pub moved_by : {V : Type 0} → List V → List (Move V) → List V
moved_by table [] = table
moved_by table (c ∷ cs) = moved_by (moved table c) cs

-- Moment t of a batch: the table after its first t moves.
abbrev pub table_at : {V : Type 0} → List V → List (Move V) → ℕ → List V
table_at table batch t = moved_by table (take t batch)

-- Places: the smaller number is ahead.
abbrev pub by_place : Scale ℕ
by_place = record { ahead = nat_lt; level = nat_eq; none = 0 }

abbrev pub place_of : List ℕ → ℕ → ℕ
place_of places k = value_of 0 places k

-- Link j is ordered before link k: its place is smaller, or the places are level and j is smaller.
abbrev pub place_before : List ℕ → ℕ → ℕ → Bool
place_before places j k = before_by by_place places j k

abbrev pub places_at : List ℕ → List (Move ℕ) → ℕ → List ℕ
places_at places batch t = table_at places batch t
