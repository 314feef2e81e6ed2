use Rattle.std.proofs.Common.{◌≡◌, ℕ, Bool, List, length, take, filter}
use Rattle.block_records.specs.declared.Link.{Link}
use Rattle.block_records.specs.Words.{links_in}
use Rattle.graphs.specs.Graph.{In}
use Rattle.forests.specs.Union.{Holds}
use Rattle.thinning.specs.Marks.{stacked}
use Rattle.thinning.proofs.contraction.join.Given as goal

abbrev pub invariant-loop-words : goal.invariant-loop-words
invariant-loop-words g l =
    (length l.classes.parent.now ≡ length l.initial.classes.parent.now) × (l.classes.parent.ghost_name ≡ l.initial.classes.parent.ghost_name)
    × ((p : ℕ → Bool) → ((e : Link) (b : Bool) → In e (links_in l.links) → goal.F-post g l.passes e.number b → b ≡ p e.number)
    → (K : List Link) → Holds K l.initial.classes.parent.now → Holds (stacked K (filter (λ (e : Link). p e.number) (take l.words-index (links_in l.links)))) l.classes.parent.now)
