-- Making a blank fabric in lent memory.
use Rattle.std.specs.Prelude.{◌≡◌, ℕ, Bool, false, List, [], ◌++◌, drop, replicate, Some, None, Option}
use Rattle.faults.specs.declared.BlankFault.{BlankFault}

-- Memory with its first bytes set to 0, and the rest kept.
abbrev pub blanked : ℕ → List ℕ → List ℕ
blanked needed bs = replicate needed 0 ++ drop needed bs

-- What becomes of memory bs, and the carrying links c of the new fabric, where a fabric of m links needs so many bytes.
-- Granted, these bytes are 0 and none of m links carries; refused, memory stands as it stood and the fabric has no links.
abbrev pub Begins : Option BlankFault → ℕ → ℕ → List ℕ → List ℕ → List Bool → Type 0
Begins None m needed bs after c = (after ≡ blanked needed bs) × (c ≡ replicate m false)
Begins (Some f) m needed bs after c = (after ≡ bs) × (c ≡ [])
