-- The answers of a fabric's calls, from the place of the link and the flag there: for any make.
use Rattle.std.proofs.Common.{◌≡◌, ℕ, Bool, true, false, cond, not, List, length, get_or, set, Some, None, Ok, Err, sym, refl, ap, ◌∙◌, arith}
use Rattle.faults.specs.declared.FabricFault.{FabricFault}
use Rattle.faults.specs.declared.FabricFault.TheVariants.{LinkOutside, CarriesAlready, CarriesNot}
use Rattle.network.specs.Ends.{unless}
use Rattle.fabrics.specs.Meaning.{within, among, carries, flag_fault, Looks, Enables, Disables, Places, Turns}
use Rattle.fabrics.proofs.Blanks.{granted}

-- A link that is turned was the other way.
pub differs : (k : ℕ) (on b : Bool) (u : Unit {0}) → Ok u ≡ unless (flag_fault k b on) u → b ≡ not on
differs k true true u e = cc
differs k true false u e = refl
differs k false true u e = refl
differs k false false u e = cc

module _ (c : List Bool) (m k : ℕ) (size : length c ≡ m) (i : ℕ) (p : Places m k (Ok i)) where
  turned : (on b : Bool) → get_or c i false ≡ b → flag_fault k b on ≡ None → (d : List Bool) → d ≡ set c i on → Turns {U = Unit {0}} c k on (Ok tt) d
  turned true true e f d s = grind arith
  turned true false e f d s = grind arith
  turned false true e f d s = grind arith
  turned false false e f d s = grind arith

  pub turns : (on b : Bool) → get_or c i false ≡ b → (u : Unit {0}) → Ok u ≡ unless (flag_fault k b on) u → (d : List Bool) → d ≡ set c i on → Turns {U = Unit {0}} c k on (Ok tt) d
  turns on b e u f d s = turned on b e (granted _ u f) d s

module _ (c : List Bool) (m k : ℕ) (size : length c ≡ m) where
  has-link : (b : Bool) → within m k ≡ b → among c k ≡ b
  has-link b e = ap (λ z. within z k) size ∙ e

  -- The link is not there.
  module _ (f : FabricFault) (p : Places m k (Err f)) where
    pub look-outside : Looks c k (Err f)
    look-outside = ap (λ b. cond b None (Some (LinkOutside k))) (has-link false p.0) ∙ ap Some (sym p.1)

    pub enable-outside : Enables {U = Unit {0}} c k (Err f) c
    enable-outside = (ap (λ b. cond b (cond (carries c k) (Some (CarriesAlready k)) None) (Some (LinkOutside k))) (has-link false p.0) ∙ ap Some (sym p.1), refl)

    pub disable-outside : Disables {U = Unit {0}} c k (Err f) c
    disable-outside = (ap (λ b. cond b (cond (carries c k) None (Some (CarriesNot k))) (Some (LinkOutside k))) (has-link false p.0) ∙ ap Some (sym p.1), refl)

  -- The link is at place i.
  module _ (i : ℕ) (p : Places m k (Ok i)) where
    flag : (b : Bool) → get_or c i false ≡ b → carries c k ≡ b
    flag b e = ap (λ z. get_or c z false) (sym p.1) ∙ e

    pub looks : (b : Bool) → b ≡ get_or c i false → Looks c k (Ok b)
    looks b e = (ap (λ z. cond z None (Some (LinkOutside k))) (has-link true p.0), e ∙ ap (λ z. get_or c z false) p.1)

    module _ (on : get_or c i false ≡ true) where
      pub enable-carries : Enables {U = Unit {0}} c k (Err (CarriesAlready k)) c
      enable-carries = (
        ap (λ b. cond b (cond (carries c k) (Some (CarriesAlready k)) None) (Some (LinkOutside k))) (has-link true p.0) ∙ ap (λ b. cond b (Some (CarriesAlready k)) None) (flag true on),
        refl,
      )

      pub disables : (d : List Bool) → d ≡ set c i false → Disables {U = Unit {0}} c k (Ok tt) d
      disables d e = (
        ap (λ b. cond b (cond (carries c k) None (Some (CarriesNot k))) (Some (LinkOutside k))) (has-link true p.0) ∙ ap (λ b. cond b None (Some (CarriesNot k))) (flag true on),
        e ∙ ap (λ z. set c z false) p.1,
      )

    module _ (off : get_or c i false ≡ false) where
      pub enables : (d : List Bool) → d ≡ set c i true → Enables {U = Unit {0}} c k (Ok tt) d
      enables d e = (
        ap (λ b. cond b (cond (carries c k) (Some (CarriesAlready k)) None) (Some (LinkOutside k))) (has-link true p.0) ∙ ap (λ b. cond b (Some (CarriesAlready k)) None) (flag false off),
        e ∙ ap (λ z. set c z true) p.1,
      )

      pub disable-carries-not : Disables {U = Unit {0}} c k (Err (CarriesNot k)) c
      disable-carries-not = (
        ap (λ b. cond b (cond (carries c k) None (Some (CarriesNot k))) (Some (LinkOutside k))) (has-link true p.0) ∙ ap (λ b. cond b None (Some (CarriesNot k))) (flag false off),
        refl,
      )
