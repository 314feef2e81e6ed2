-- Turning a link over, in the words of the fabric's meaning.
use Rattle.std.specs.Prelude.{◌≡◌, ℕ, ◌-◌, Bool, true, false, not, List, Ok, Err, Result, slice_set}
use Rattle.faults.specs.declared.FabricFault.{FabricFault}
use Rattle.faults.specs.declared.FabricFault.TheVariants.{LinkOutside}
use Rattle.fabrics.specs.Meaning.{carries, among}

-- The answer of toggle, with the carrying links c before and d after. A link that the fabric does not have is its only
-- refusal.
abbrev pub Toggles : List Bool → ℕ → Result Bool FabricFault → List Bool → Type 0
Toggles c k (Ok b) d = (among c k ≡ true) × (b ≡ not (carries c k)) × (d ≡ slice_set c (k - 1) b)
Toggles c k (Err f) d = (among c k ≡ false) × (f ≡ LinkOutside k) × (d ≡ c)
