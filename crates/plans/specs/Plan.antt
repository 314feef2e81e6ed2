-- The least forest at each moment of a batch, and what each change exchanges.
use Rattle.std.specs.Prelude.{◌≡◌, ℕ, ◌<◌, Bool, true, false, cond, ◌||◌, ◌⊎◌, List, [], ◌∷◌, map, take, ◌==◌, nat_lt}
use Rattle.block_records.specs.declared.Link.{Link}
use Rattle.graphs.specs.Forest.{ordered, forest}
use Rattle.block_records.specs.declared.Move.{Move}
use Rattle.plans.specs.Places.{Scale, before_by, by_place, moved}

-- The least forest of the links in the order of a table.
abbrev pub forest_by : {V : Type 0} → Scale V → List V → List Link → List Link
forest_by s table es = forest (before_by s table) es

-- The links' numbers, ascending.
unfoldable pub numbers : List Link → List ℕ
numbers es = map (λ (e : Link). e.number) (ordered nat_lt es)

-- The numbers of the least forest, ascending.
abbrev pub tree_by : {V : Type 0} → Scale V → List V → List Link → List ℕ
tree_by s table es = numbers (forest_by s table es)

-- Whether k is one of the numbers.
unfoldable pub among : ℕ → List ℕ → Bool
among k [] = false
among k (x ∷ xs) = k == x || among k xs

-- Number k is in the first list and not in the second.
abbrev pub Gone : List ℕ → List ℕ → ℕ → Type 0
Gone xs ys k = (among k xs ≡ true) × (among k ys ≡ false)

-- From one list to the next at most one number goes, at most one comes, and if any does then z is one of the two.
pub record Exchange (z : ℕ) (xs ys : List ℕ) : Type 0 where
  pub leaves : (j k : ℕ) → Gone xs ys j → Gone xs ys k → j ≡ k
  pub comes : (j k : ℕ) → Gone ys xs j → Gone ys xs k → j ≡ k
  pub touches : (k : ℕ) → Gone xs ys k ⊎ Gone ys xs k → Gone xs ys z ⊎ Gone ys xs z

-- The first of xs that is not among ys, or 0.
unfoldable pub first_but : List ℕ → List ℕ → ℕ
first_but [] ys = 0
first_but (x ∷ xs) ys = cond (among x ys) (first_but xs ys) x

-- An entry: the link that leaves and the link that comes, each 0 for none.
abbrev pub Entry : Type 0
Entry = ℕ × ℕ

abbrev pub entry : List ℕ → List ℕ → Entry
entry xs ys = (first_but xs ys, first_but ys xs)

-- A plan: one entry for each move of a batch.
unfoldable pub entries_by : {V : Type 0} → Scale V → List V → List Link → List (Move V) → List Entry
entries_by s table es [] = []
entries_by s table es (c ∷ cs) = entry (tree_by s table es) (tree_by s (moved table c) es) ∷ entries_by s (moved table c) es cs

-- Numbers in ascending order, none twice.
abbrev pub Ascending : List ℕ → Type 0
Ascending [] = Unit {0}
Ascending (x ∷ xs) = ((y : ℕ) → among y xs ≡ true → x < y) × Ascending xs

-- Ascending numbers without k; with k, which is none if 0.
unfoldable pub without : ℕ → List ℕ → List ℕ
without k [] = []
without k (x ∷ xs) = cond (k == x) xs (x ∷ without k xs)

unfoldable pub inserted : ℕ → List ℕ → List ℕ
inserted k [] = k ∷ []
inserted k (x ∷ xs) = cond (nat_lt k x) (k ∷ x ∷ xs) (x ∷ inserted k xs)

abbrev pub with_one : ℕ → List ℕ → List ℕ
with_one k xs = cond (k == 0) xs (inserted k xs)

-- A tree after an entry; after several, in turn; after the first t.
abbrev pub exchanged : List ℕ → Entry → List ℕ
exchanged xs e = with_one e.1 (without e.0 xs)

unfoldable pub exchanged_by : List ℕ → List Entry → List ℕ
exchanged_by xs [] = xs
exchanged_by xs (e ∷ es) = exchanged_by (exchanged xs e) es

abbrev pub replayed : List ℕ → List Entry → ℕ → List ℕ
replayed start es t = exchanged_by start (take t es)

-- The same by places.
abbrev pub forest_at : List ℕ → List Link → List Link
forest_at places es = forest_by by_place places es

abbrev pub tree_at : List ℕ → List Link → List ℕ
tree_at places es = tree_by by_place places es

abbrev pub entries : List ℕ → List Link → List (Move ℕ) → List Entry
entries places es cs = entries_by by_place places es cs
