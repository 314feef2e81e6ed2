-- Kruskal's greedy forest of links.
use Rattle.std.specs.Prelude.{◌≡◌, ℕ, Bool, true, false, cond, not, ◌||◌, ◌≢◌, ◌⊎◌, List, [], ◌∷◌, ◌==◌}
use Rattle.block_records.specs.declared.Link.{Link}
use Rattle.graphs.specs.Graph.{joins, In}

-- A strict total order of link numbers.
pub record Strict (lt : ℕ → ℕ → Bool) : Type 0 where
  pub apart : (j : ℕ) → lt j j ≡ false
  pub chain : (i j k : ℕ) → lt i j ≡ true → lt j k ≡ true → lt i k ≡ true
  pub total : (j k : ℕ) → (lt j k ≡ true) ⊎ (j ≡ k) ⊎ (lt k j ≡ true)

-- No two of the links have one number.
abbrev pub Distinct : List Link → Type 0
Distinct [] = Unit {0}
Distinct (e ∷ es) = ((f : Link) → In f es → e.number ≢ f.number) × Distinct es

-- A link put into a list that is in order.
unfoldable pub placed : (ℕ → ℕ → Bool) → Link → List Link → List Link
placed lt e [] = e ∷ []
placed lt e (f ∷ fs) = cond (lt e.number f.number) (e ∷ f ∷ fs) (f ∷ placed lt e fs)

-- The links in order.
unfoldable pub ordered : (ℕ → ℕ → Bool) → List Link → List Link
ordered lt [] = []
ordered lt (e ∷ es) = placed lt e (ordered lt es)

-- Of links taken in turn, those whose ends the kept ones do not yet join.
unfoldable pub greedy : List Link → List Link → List Link
greedy kept [] = []
greedy kept (e ∷ es) =
    cond (joins kept e.a.0 e.b.0) (greedy kept es) (e ∷ greedy (e ∷ kept) es)

-- The least forest, in order.
abbrev pub forest : (ℕ → ℕ → Bool) → List Link → List Link
forest lt es = greedy [] (ordered lt es)

-- The links that pass a test.
unfoldable pub filtered : (Link → Bool) → List Link → List Link
filtered p [] = []
filtered p (e ∷ es) = cond (p e) (e ∷ filtered p es) (filtered p es)

-- Whether f comes before z; whether it is z or comes before z.
abbrev pub before : (ℕ → ℕ → Bool) → Link → Link → Bool
before lt z f = lt f.number z.number

abbrev pub upto : (ℕ → ℕ → Bool) → Link → Link → Bool
upto lt z f = f.number == z.number || before lt z f

-- The links before z; those up to z; all but z.
abbrev pub befores : (ℕ → ℕ → Bool) → Link → List Link → List Link
befores lt z es = filtered (before lt z) es

abbrev pub uptos : (ℕ → ℕ → Bool) → Link → List Link → List Link
uptos lt z es = filtered (upto lt z) es

abbrev pub others : Link → List Link → List Link
others z es = filtered (λ f. not (f.number == z.number)) es

-- The links hold no loop: the others join the ends of none.
abbrev pub LoopFree : List Link → Type 0
LoopFree es = (z : Link) → In z es → joins (others z es) z.a.0 z.b.0 ≡ false
