-- New numbers of nodes in a table: node x has the number at word x.
use Rattle.std.specs.Prelude.{◌≡◌, ℕ, ◌<◌, List, slice_index}
use Rattle.block_records.specs.declared.Link.{Link}
use Rattle.graphs.specs.Thin.{renamed}
use Rattle.block_records.specs.Words.{link}

-- The table has the new number of each node below n, where the ends of some links are merged.
abbrev pub Renames : List Link → List ℕ → ℕ → Type 0
Renames merged name n = (x : ℕ) → x < n → slice_index name x ≡ renamed merged x

-- A link with its ends read off the table.
abbrev pub through : List ℕ → Link → Link
through name e = link e.number (slice_index name e.a.0) (slice_index name e.b.0)
