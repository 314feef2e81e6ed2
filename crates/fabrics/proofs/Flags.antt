-- The flags of a link map's bytes.
use Rattle.std.proofs.Common.{◌≡◌, ℕ, ◌<◌, ◌≤◌, Bool, true, false, arith, eqb, List, length, get_or, set, ap, ◌∙◌}
use mir.Val.{bool_byte}
use lib.Seq.{take-set-lt}
use Rattle.std.proofs.lemmas.List.{map-set}
use Rattle.std.proofs.lemmas.Grind.{common_steps}
use Rattle.fabrics.specs.Map.{flags}

module _ (m : ℕ) (bs : List ℕ) (fits : m ≤ length bs) where
  pub length-flags : length (flags m bs) ≡ m
  length-flags = grind (arith, common_steps)

  module _ (i : ℕ) (h : i < m) where
    pub flag_at : get_or (flags m bs) i false ≡ eqb (get_or bs i 0) 1
    flag_at = grind (arith, common_steps)

    flags-set : (v : ℕ) → flags m (set bs i v) ≡ set (flags m bs) i (eqb v 1)
    flags-set v = simp (take-set-lt m bs i v h, map-set)

    pub flags-turned : (on : Bool) (v : ℕ) → v ≡ bool_byte on → flags m (set bs i v) ≡ set (flags m bs) i on
    flags-turned true v e = flags-set v ∙ ap (λ x. set (flags m bs) i (eqb x 1)) e
    flags-turned false v e = flags-set v ∙ ap (λ x. set (flags m bs) i (eqb x 1)) e
