-- The limits of a text.
use Rattle.std.specs.Prelude.{ℕ}

-- the most bytes
abbrev pub max_bytes : ℕ
max_bytes = 4096

-- the most nodes
abbrev pub max_nodes : ℕ
max_nodes = 32

-- the most links
abbrev pub max_links : ℕ
max_links = 64

-- the most changes
abbrev pub max_changes : ℕ
max_changes = 128
