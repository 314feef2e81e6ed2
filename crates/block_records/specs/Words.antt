-- Links, moves and entries in words: three words each for a link, two for a move and for an entry.
use Rattle.std.specs.Prelude.{ℕ, List, [], map, slice_index, slice_index_or}
use Rattle.block_records.specs.declared.Link.{Link}
use Rattle.block_records.specs.declared.Move.{Move}

-- A link's number and its two ends.
abbrev pub link : ℕ → ℕ → ℕ → Link
link k x y = record { number = k; a = record { 0 = x }; b = record { 0 = y } }

-- No link.
abbrev pub no_link : Link
no_link = link 0 0 0

-- The link in some words: its number, then its two ends.
abbrev pub link_of : List ℕ → Link
link_of words = link (slice_index words 0) (slice_index words 1) (slice_index words 2)

-- The i-th link of a table, counted from 0.
abbrev pub link_in : List (List ℕ) → ℕ → Link
link_in table i = link_of (slice_index_or table i [])

-- The links of a table.
abbrev pub links_in : List (List ℕ) → List Link
links_in table = map link_of table

-- A move: a link's number and its new place.
abbrev pub move : ℕ → ℕ → Move ℕ
move k p = record { link = k; to = p }

-- No move.
abbrev pub no_move : Move ℕ
no_move = move 0 0

-- The move in some words: the link's number, then its new place.
abbrev pub move_of : List ℕ → Move ℕ
move_of words = move (slice_index words 0) (slice_index words 1)

-- The moves of a table.
abbrev pub moves_in : List (List ℕ) → List (Move ℕ)
moves_in table = map move_of table

-- An entry: the link that leaves and the link that comes, each 0 for none.
abbrev pub exchange : ℕ → ℕ → ℕ × ℕ
exchange x y = (x, y)

-- The entry in some words.
abbrev pub exchange_of : List ℕ → ℕ × ℕ
exchange_of words = exchange (slice_index words 0) (slice_index words 1)

-- The entries of a table.
abbrev pub entries_in : List (List ℕ) → List (ℕ × ℕ)
entries_in table = map exchange_of table

-- The first words of a table's records: the numbers of their links.
abbrev pub numbers_in : List (List ℕ) → List ℕ
numbers_in table = map (λ words. slice_index words 0) table
