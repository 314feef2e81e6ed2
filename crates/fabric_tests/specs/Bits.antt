-- A fabric as bits: link k is bit (k - 1) mod 32 of word (k - 1) / 32, 1 for a link that carries.
use Rattle.std.specs.Prelude.{ℕ, ◌+◌, ◌/◌, ◌%◌, ◌^◌, Bool, cond, List, map, Some, None, Option, ◌==◌, bit_xor, nat_lt, slice_index, slice_set}
use Rattle.std.specs.Borrow.{GName}
use Rattle.std.specs.List.{range_with_len}
use Rattle.faults.specs.declared.BlankFault.{BlankFault}
use Rattle.faults.specs.declared.BlankFault.TheVariants.{LinkCount, ShortMemory}

-- Whether bit j of a word is 1.
abbrev pub bit : ℕ → ℕ → Bool
bit w j = w / 2 ^ j % 2 == 1

-- Whether the link at place i carries.
abbrev pub flag : List ℕ → ℕ → Bool
flag ws i = bit (slice_index ws (i / 32)) (i % 32)

-- The flag of each of m links.
abbrev pub flags : ℕ → List ℕ → List Bool
flags m ws = map (flag ws) (range_with_len 0 m)

-- The words with the bit at place i turned.
abbrev pub turned : List ℕ → ℕ → List ℕ
turned ws i = slice_set ws (i / 32) (bit_xor (slice_index ws (i / 32)) (2 ^ (i % 32)))

-- How many words m links need.
abbrev pub words_for : ℕ → ℕ
words_for m = (m + 31) / 32

-- Why so many words make no blank fabric of m links, if so.
abbrev pub bits_fault : ℕ → ℕ → Option BlankFault
bits_fault m len = cond (nat_lt 16384 m) (Some LinkCount) (cond (nat_lt len (words_for m)) (Some ShortMemory) None)

-- What the fabric keeps while links are enabled and disabled: its size, and by its name the memory that it was lent.
abbrev pub BitShape : Type 0
BitShape = ℕ × GName

abbrev pub shape_of : ℕ → GName → BitShape
shape_of m memory = (m, memory)
