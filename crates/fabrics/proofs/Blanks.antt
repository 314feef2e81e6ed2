-- Memory whose first bytes are set to 0, and the link map that it makes.
use Rattle.std.proofs.Common.{◌≡◌, ℕ, ◌<◌, ◌≤◌, Bool, false, eqb, List, length, get_or, replicate, Some, None, Option, Ok, sym, refl, ap, ◌∙◌, subst, arith}
use Rattle.std.proofs.lemmas.List.{get_or-replicate, length-replicate, ext_get_or}
use Rattle.std.proofs.lemmas.Bool.Decides.{nat_tests}
use Rattle.std.proofs.lemmas.Grind.{common_steps}
use Rattle.fabrics.specs.Blank.{blanked, Begins}
use Rattle.faults.specs.declared.BlankFault.{BlankFault}
use Rattle.network.specs.Ends.{unless}
use Rattle.fabrics.specs.Map.{flags, map_fault}
use Rattle.fabrics.proofs.Flags.{length-flags, flag_at}

-- A call that refuses for a reason and did not.
pub granted : {X E : Type 0} (o : Option E) (x : X) → Ok x ≡ unless o x → o ≡ None
granted None x e = refl
granted (Some f) x e = cc

module _ (k : ℕ) (bs : List ℕ) where
  pub blank-at : (j : ℕ) → j < k → get_or (blanked k bs) j 0 ≡ 0
  blank-at j h = grind (arith, common_steps)

  pub length-blanked : k ≤ length bs → length (blanked k bs) ≡ length bs
  length-blanked h = grind (arith, common_steps)

-- Flags of which none is set.
none-set : (m : ℕ) (c : List Bool) → length c ≡ m → ((i : ℕ) → i < m → get_or c i false ≡ false) → c ≡ replicate m false
none-set m c l f =
    ext_get_or false c (replicate m false) (l ∙ sym (length-replicate m false))
    (λ i h. let im : i < m = omega (arith, l) in f i im ∙ sym (get_or-replicate m i false false im))

-- A granted fabric, of any make, whose flags after its bytes are blank are all clear.
pub begins : (o : Option BlankFault) (m k : ℕ) (bs : List ℕ) (c : List Bool) → o ≡ None → length c ≡ m → ((i : ℕ) → i < m → get_or c i false ≡ false) → Begins o m k bs (blanked k bs) c
begins None m k bs c none l f = (refl, none-set m c l f)
begins (Some x) m k bs c none l f = cc

module _ (m : ℕ) (bs : List ℕ) (none : map_fault m (length bs) ≡ None) where
  fits : m ≤ length (blanked m bs)
  fits = grind (arith, nat_tests, common_steps)

  pub begins-blank : (after : List ℕ) → after ≡ blanked m bs → Begins (map_fault m (length bs)) m m bs after (flags m after)
  begins-blank after e =
      subst (λ a. Begins (map_fault m (length bs)) m m bs a (flags m a)) (sym e)
      (begins _ m m bs (flags m (blanked m bs)) none (length-flags m (blanked m bs) fits)
      (λ i h. flag_at m (blanked m bs) fits i h ∙ ap (λ b. eqb b 1) (blank-at m bs i h)))
