use Rattle.std.proofs.Common.{◌≡◌, map, take}
use Rattle.block_records.specs.Words.{exchange_of}
use Rattle.drawing.proofs.entries.copy_entries.Given as goal

abbrev pub invariant-loop-i : goal.invariant-loop-i
invariant-loop-i l = take l.i l.entries ≡ map exchange_of (take l.i l.words)
