-- Walking along a list of links.
use Rattle.std.proofs.Common.{◌≡◌, ℕ, zero, suc, ◌+◌, ◌<◌, ◌≤◌, true, false, cond, eqb, ltb, List, [], ◌∷◌, ◌++◌, length, get_or, take, drop, Some, None, Option, sym, ◌∙◌, arith}
use Rattle.std.proofs.lemmas.List.{at_drop_more, take_more}
use Rattle.std.proofs.lemmas.Bool.Decides.{nat_tests}
use Rattle.faults.specs.declared.FabricFault.TheVariants.{LinkOutside, CarriesAlready}
use Rattle.faults.specs.declared.PlayerFault.{PlayerFault}
use Rattle.faults.specs.declared.PlayerFault.TheVariants.{Refused}
use Rattle.player.specs.Start.{mem, list_fault}
use Rattle.player.proofs.Nones.{cond-none}

-- What a list without a fault says of its link at place i.
pub record Sound (m : ℕ) (xs : List ℕ) (i : ℕ) : Type 0 where
  pub some : get_or xs i 0 ≡ 0 → ⊥
  pub within : get_or xs i 0 ≤ m
  pub first : mem (get_or xs i 0) (take i xs) ≡ false
  pub next : list_fault m (take (i + 1) xs) (drop (i + 1) xs) ≡ None

module _ (m : ℕ) (xs : List ℕ) (i : ℕ) (h : i < length xs) where
  abbrev at : ℕ
  at = get_or xs i 0

  abbrev after : Option PlayerFault
  after = list_fault m (take (i + 1) xs) (drop (i + 1) xs)

  opened : list_fault m (take i xs) (drop i xs)
      ≡ cond (cond (eqb at 0) true (ltb m at)) (Some (Refused (LinkOutside at))) (cond (mem at (take i xs)) (Some (Refused (CarriesAlready at))) after)
  opened = rw (take_more xs i 0 h) (at_drop_more (list_fault m (take i xs)) xs i 0 h)

  pub fault_twice : (at ≡ 0 → ⊥) → at ≤ m → mem at (take i xs) ≡ true → list_fault m (take i xs) (drop i xs) ≡ Some (Refused (CarriesAlready at))
  fault_twice n o e = let q = opened in grind (arith, nat_tests)

  pub fault_next : (at ≡ 0 → ⊥) → at ≤ m → mem at (take i xs) ≡ false → after ≡ list_fault m (take i xs) (drop i xs)
  fault_next n o e = let q = opened in grind (arith, nat_tests)

  pub sound_at : list_fault m (take i xs) (drop i xs) ≡ None → Sound m xs i
  sound_at e =
      let a = cond-none (cond (eqb at 0) true (ltb m at)) (Refused (LinkOutside at)) _ (sym opened ∙ e) in
      let b = cond-none (mem at (take i xs)) (Refused (CarriesAlready at)) after a.1 in
      let s : cond (eqb at 0) true (ltb m at) ≡ false = a.0 in
      record { some = λ z. grind (arith, nat_tests); within = grind (arith, nat_tests); first = b.0; next = b.1 }

-- No link of a list without a fault is 0.
pub list-nonzero : (m : ℕ) (seen xs : List ℕ) → list_fault m seen xs ≡ None → (j : ℕ) → j < length xs → get_or xs j 0 ≡ 0 → ⊥
list-nonzero m seen [] e j h z = absurd (omega arith)
list-nonzero m seen (x ∷ xs) e zero h z = grind (arith, nat_tests)
list-nonzero m seen (x ∷ xs) e (suc j) h z =
    let a = cond-none (cond (eqb x 0) true (ltb m x)) (Refused (LinkOutside x)) _ e in
    list-nonzero m (seen ++ x ∷ []) xs (cond-none (mem x seen) (Refused (CarriesAlready x)) _ a.1).1 j (omega arith) z
