-- What a batch tells as it goes: its work, and the first change after which the forest holds an absent link.
use Rattle.std.specs.Prelude.{◌≡◌, ℕ, ◌+◌, false, cond, List, length, Some, None, Option, nat_lt}
use Rattle.block_records.specs.declared.Link.{Link}
use Rattle.block_records.specs.declared.Move.{Move}
use Rattle.leaves.specs.declared.tally.Tally.{Tally}
use Rattle.plans.specs.Tears.{torn_at, first_tear}

-- The tear that some changes tell: so many changes were made before them, and so many of them come before the first tear, if one of them is it.
abbrev pub tear_in : ℕ → ℕ → ℕ → Option ℕ
tear_in before tear count = cond (nat_lt tear count) (Some (before + tear)) None

-- From tally t, some changes from some places give tally r and add the work w. A tear that was told before stays as it was.
pub record Told (t r : Tally) (w : ℕ) (places : List ℕ) (es : List Link) (cs : List (Move ℕ)) : Type 0 where
  pub work : r.work ≡ t.work + w
  pub place : r.absent ≡ t.absent
  pub counts : r.changes ≡ t.changes + length cs
  pub stays : (k : ℕ) → t.tear ≡ Some k → r.tear ≡ Some k
  pub tells : (a : ℕ) → t.absent ≡ a → t.tear ≡ None → torn_at a places es ≡ false → r.tear ≡ tear_in t.changes (first_tear a places es cs) (length cs)

-- What a batch answers of tears, if the least forest holds no link at the absent place or later before it: how many changes come before
-- the first after which it does, if there is one.
abbrev pub Tear : ℕ → List ℕ → List Link → List (Move ℕ) → Tally → Type 0
Tear absent places es cs r =
    torn_at absent places es ≡ false → r.tear ≡ cond (nat_lt (first_tear absent places es cs) (length cs)) (Some (first_tear absent places es cs)) None
