-- What one change tells.
use Rattle.std.specs.Prelude.{◌≡◌, ℕ, ◌+◌, ◌^◌, ◌<◌, cond, List, Some, None}
use Rattle.block_records.specs.declared.Link.{Link}
use Rattle.leaves.specs.declared.tally.Tally.{Tally}
use Rattle.plans.specs.Tears.{torn_at}

-- From tally t, one change gives tally r, after which the places are these; the work stays. A tear that was told before stays as it was.
pub record Spoke (t r : Tally) (places : List ℕ) (es : List Link) : Type 0 where
  pub work : r.work ≡ t.work
  pub place : r.absent ≡ t.absent
  pub counts : t.changes + 1 < 2 ^ 64 → r.changes ≡ t.changes + 1
  pub stays : (k : ℕ) → t.tear ≡ Some k → r.tear ≡ Some k
  pub tells : (a : ℕ) → t.absent ≡ a → t.tear ≡ None → r.tear ≡ cond (torn_at a places es) (Some t.changes) None
