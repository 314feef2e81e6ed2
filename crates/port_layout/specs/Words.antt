-- Memory as cells of two bytes, high byte first.
use Rattle.std.specs.Prelude.{ℕ, ◌+◌, ◌*◌, ◌/◌, ◌%◌, List, slice_index, slice_set}
use Rattle.port_layout.specs.Chains.{cell}

-- What cell c spells.
abbrev pub word : List ℕ → ℕ → ℕ
word bs c = slice_index bs (2 * c) * 256 + slice_index bs (2 * c + 1)

-- Memory with a number written into cell c.
abbrev pub put : List ℕ → ℕ → ℕ → List ℕ
put bs c x = slice_set (slice_set bs (2 * c) (x / 256)) (2 * c + 1) (x % 256)

-- Memory with record r put at the front of the chain whose head is cell v.
abbrev pub pushed : ℕ → List ℕ → ℕ → ℕ → List ℕ
pushed n bs r v = put (put bs (cell n r) (word bs v)) v r

-- Memory with record r, which cell p holds, taken out of its chain.
abbrev pub unlinked : ℕ → List ℕ → ℕ → ℕ → List ℕ
unlinked n bs r p = put (put bs p (word bs (cell n r))) (cell n r) 0
