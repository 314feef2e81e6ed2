-- The first change of a batch after which the least forest holds a link that a test of its value picks out: an absent one.
use Rattle.std.specs.Prelude.{ℕ, suc, Bool, false, cond, ◌||◌, List, [], ◌∷◌, nat_le}
use Rattle.block_records.specs.declared.Link.{Link}
use Rattle.block_records.specs.declared.Move.{Move}
use Rattle.plans.specs.Places.{Scale, value_of, by_place, moved}
use Rattle.plans.specs.Plan.{tree_by}

-- Whether the value of one of the numbers passes the test.
unfoldable pub late_by : {V : Type 0} → (V → Bool) → Scale V → List V → List ℕ → Bool
late_by test s table [] = false
late_by test s table (k ∷ ks) = test (value_of s.none table k) || late_by test s table ks

-- Whether the least forest holds such a link.
abbrev pub torn_by : {V : Type 0} → (V → Bool) → Scale V → List V → List Link → Bool
torn_by test s table es = late_by test s table (tree_by s table es)

-- How many moves are made before the first after which it does.
unfoldable pub first_tear_by : {V : Type 0} → (V → Bool) → Scale V → List V → List Link → List (Move V) → ℕ
first_tear_by test s table es [] = 0
first_tear_by test s table es (c ∷ cs) =
    cond (torn_by test s (moved table c) es) 0 (suc (first_tear_by test s (moved table c) es cs))

-- By places: links at the absent place or later.
abbrev pub late : ℕ → List ℕ → List ℕ → Bool
late absent places ks = late_by (λ p. nat_le absent p) by_place places ks

abbrev pub torn_at : ℕ → List ℕ → List Link → Bool
torn_at absent places es = torn_by (λ p. nat_le absent p) by_place places es

abbrev pub first_tear : ℕ → List ℕ → List Link → List (Move ℕ) → ℕ
first_tear absent places es cs = first_tear_by (λ p. nat_le absent p) by_place places es cs
