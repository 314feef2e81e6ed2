-- Present links by index, and the links of indexes.
use Rattle.std.specs.Prelude.{ℕ, suc, ◌+◌, ◌<◌, cond, List, [], ◌∷◌, length, slice_index_or}
use Rattle.block_records.specs.declared.Link.{Link}
use Rattle.network.specs.declared.types.Ends.{Ends}
use Rattle.network.specs.declared.types.LinkState.{LinkState}

-- The indexes of the present links of a table whose first link has index i.
unfoldable pub present_indexes : {W : Type 0} → ℕ → List (LinkState W) → List ℕ
present_indexes i [] = []
present_indexes i (s ∷ ss) = cond s.present (i ∷ present_indexes (i + 1) ss) (present_indexes (i + 1) ss)

-- The ends of no link.
abbrev pub no_ends : Ends
no_ends = record { a = record { 0 = 0 }; b = record { 0 = 0 } }

-- The link of index i, which is link i + 1, with nodes that keep their numbers.
abbrev pub link_at : List Ends → ℕ → Link
link_at ends i = record { number = suc i; a = record { 0 = (slice_index_or ends i no_ends).a.0 }; b = record { 0 = (slice_index_or ends i no_ends).b.0 } }

-- The ends of links are nodes below n.
abbrev pub EndsUnder : ℕ → List Ends → Type 0
EndsUnder n ends = (i : ℕ) → i < length ends → ((slice_index_or ends i no_ends).a.0 < n) × ((slice_index_or ends i no_ends).b.0 < n)
