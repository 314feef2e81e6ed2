-- What thinning keeps and what it merges, orders that differ in the named links only, and what changes between their least forests.
use Rattle.std.specs.Prelude.{◌≡◌, ℕ, Bool, true, false, not, ◌≢◌, List}
use Rattle.block_records.specs.declared.Link.{Link}
use Rattle.graphs.specs.Forest.{filtered}
use Rattle.graphs.specs.Thin.{Block, holds, reduced, mergeable, renamed, with_ends}

-- The links that are named, and those that are not.
abbrev pub chosen : (ℕ → Bool) → List Link → List Link
chosen named es = filtered (λ e. named e.number) es

abbrev pub rest : (ℕ → Bool) → List Link → List Link
rest named es = filtered (λ e. not (named e.number)) es

-- A link with its ends renamed to the new numbers of merged nodes.
abbrev pub relabelled : List Link → Link → Link
relabelled ms e = with_ends (renamed ms) e

-- The links that are merged as a block's graph is thinned.
abbrev pub merges : (ℕ → Bool) → (ℕ → ℕ → Bool) → Block → List Link
merges named lt g = mergeable named lt (reduced named lt g.links)

-- Two orders that agree on the links that are not named.
pub record Agree (named : ℕ → Bool) (lt lt' : ℕ → ℕ → Bool) : Type 0 where
  pub same : (j k : ℕ) → named j ≡ false → named k ≡ false → lt j k ≡ lt' j k

-- The link k is in the first forest and not in the second.
abbrev pub Leaves : ℕ → List Link → List Link → Type 0
Leaves k fs fs' = (holds k fs ≡ true) × (holds k fs' ≡ false)

-- What a change of one link c does to the least forest: at most one link goes out and at most one comes in,
-- and of two such links one is c.
pub record OneChange (c : ℕ) (fs fs' : List Link) : Type 0 where
  pub out : (j k : ℕ) → Leaves j fs fs' → Leaves k fs fs' → j ≡ k
  pub into : (j k : ℕ) → Leaves j fs' fs → Leaves k fs' fs → j ≡ k
  pub out-for : (k : ℕ) → k ≢ c → Leaves k fs fs' → Leaves c fs' fs
  pub into-for : (k : ℕ) → k ≢ c → Leaves k fs' fs → Leaves c fs fs'
