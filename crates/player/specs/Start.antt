-- A start list, judged by itself.
use Rattle.std.specs.Prelude.{ℕ, ◌<◌, ◌≤◌, Bool, true, false, cond, List, [], ◌∷◌, ◌++◌, length, Some, None, Option, ◌==◌, nat_lt, slice_index}
use Rattle.faults.specs.declared.FabricFault.TheVariants.{LinkOutside, CarriesAlready}
use Rattle.faults.specs.declared.PlayerFault.{PlayerFault}
use Rattle.faults.specs.declared.PlayerFault.TheVariants.{Refused}

-- Whether x is in the list.
abbrev pub mem : ℕ → List ℕ → Bool
mem x [] = false
mem x (y ∷ ys) = cond (x == y) true (mem x ys)

-- The first fault of a list of links to enable in a blank fabric of m links, those in `seen` being listed before: item by
-- item, a link that the fabric does not have, or one that is listed before.
abbrev pub list_fault : ℕ → List ℕ → List ℕ → Option PlayerFault
list_fault m seen [] = None
list_fault m seen (x ∷ xs) =
    cond (cond (x == 0) true (nat_lt m x)) (Some (Refused (LinkOutside x)))
    (cond (mem x seen) (Some (Refused (CarriesAlready x))) (list_fault m (seen ++ x ∷ []) xs))

-- Each item of the list is larger than all before it.
abbrev pub Ascends : List ℕ → Type 0
Ascends xs = (i j : ℕ) → i < j → j < length xs → slice_index xs i < slice_index xs j

-- An ascending list whose items below x are those before place `at`.
pub record Parts (xs : List ℕ) (at x : ℕ) : Type 0 where
  pub order : Ascends xs
  pub under : (j : ℕ) → j < at → j < length xs → slice_index xs j < x
  pub over : (j : ℕ) → at ≤ j → j < length xs → x ≤ slice_index xs j
