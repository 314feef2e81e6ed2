use Rattle.std.proofs.Common.{◌≡◌, ℕ, cond, get_or, take}
use Rattle.plans.specs.Plan.{among}
use Rattle.block_records.specs.Words.{numbers_in}
use Rattle.thinning.proofs.marks.fill_at.Given as goal

abbrev pub invariant-loop-words : goal.invariant-loop-words
invariant-loop-words g l =
    (k : ℕ) → get_or l.marks k 0 ≡ cond (among k (numbers_in (take l.words-index l.records))) l.word (get_or l.initial.marks k 0)
