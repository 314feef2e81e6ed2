-- The link map's bytes: 1 for a link that carries and 0 for one that does not.
use Rattle.std.specs.Prelude.{ℕ, ◌<◌, ◌≤◌, Bool, cond, List, map, take, Some, None, Option, nat_eq, nat_lt, slice_index}
use Rattle.std.specs.Borrow.{GName}
use Rattle.faults.specs.declared.BlankFault.{BlankFault}
use Rattle.faults.specs.declared.BlankFault.TheVariants.{LinkCount, ShortMemory}

-- The flags that the first m bytes stand for.
abbrev pub flags : ℕ → List ℕ → List Bool
flags m bs = map (λ b. nat_eq b 1) (take m bs)

-- That each of the first m bytes is 1 or 0.
abbrev pub Bits : ℕ → List ℕ → Type 0
Bits m bs = (k : ℕ) → k < m → slice_index bs k ≤ 1

-- The byte of a link that carries, or of one that does not.
abbrev pub byte : Bool → ℕ
byte on = cond on 1 0

-- Why memory of so many bytes makes no link map of m links, if so.
abbrev pub map_fault : ℕ → ℕ → Option BlankFault
map_fault m len = cond (nat_lt 16384 m) (Some LinkCount) (cond (nat_lt len m) (Some ShortMemory) None)

-- What a link map keeps while links are enabled and disabled: its size, and by its name the memory that it was lent.
abbrev pub MapShape : Type 0
MapShape = ℕ × GName

abbrev pub shape_of : ℕ → GName → MapShape
shape_of m memory = (m, memory)
