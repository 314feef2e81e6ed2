use Rattle.std.proofs.lemmas.List.Filters.{FiltersInPlace}
use Rattle.block_records.specs.declared.Link.{Link}
use Rattle.graphs.specs.Thin.{either}
use Rattle.block_records.specs.Words.{links_in}
use Rattle.thinning.specs.Marks.{flag}
use Rattle.thinning.proofs.marks.retain.Given as goal

abbrev pub invariant-loop-i : goal.invariant-loop-i
invariant-loop-i l = FiltersInPlace (λ (e : Link). either (flag l.named e.number) (flag l.chosen e.number)) (links_in l.initial.links) (links_in l.links) l.k l.i
