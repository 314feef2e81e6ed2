use Rattle.std.proofs.Common.{◌≡◌, ◌++◌, map, take, drop}
use Rattle.block_records.specs.Words.{links_in}
use Rattle.thinning.specs.Names.{through}
use Rattle.thinning.proofs.contraction.rename.Given as goal

abbrev pub invariant-loop-words : goal.invariant-loop-words
invariant-loop-words l =
    links_in l.links ≡ map (through l.name) (take l.words-index (links_in l.initial.links)) ++ drop l.words-index (links_in l.initial.links)
