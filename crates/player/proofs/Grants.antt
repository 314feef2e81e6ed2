-- When a fabric has a link, and when it enables one.
use Rattle.std.proofs.Common.{◌≡◌, ℕ, ◌≤◌, Bool, true, List, length, None, Ok, Err, Result, refl, arith}
use Rattle.std.specs.Result.{IsOk}
use Rattle.std.proofs.lemmas.Bool.Decides.{nat_tests}
use Rattle.faults.specs.declared.FabricFault.{FabricFault}
use Rattle.fabrics.specs.Meaning.{among, enable_fault, Enables}
use Rattle.player.proofs.Nones.{none-some}

module _ (c : List Bool) (k : ℕ) where
  pub among_in : (k ≡ 0 → ⊥) → k ≤ length c → among c k ≡ true
  among_in n h = grind (arith, nat_tests)

  -- A link that a fabric has no ground to refuse is enabled.
  pub enabled : (r : Result (Unit {0}) FabricFault) (d : List Bool) → enable_fault c k ≡ None → Enables c k r d → IsOk r
  enabled (Ok u) d e a = refl
  enabled (Err f) d e a = absurd (none-some (enable_fault c k) f e a.0)
