use Rattle.std.proofs.Common.{◌≡◌, ◌<◌, drop}
use Rattle.text_words.specs.Number.{value_from}
use Rattle.text_words.proofs.number.digits.Given as goal

abbrev pub invariant-loop-b : goal.invariant-loop-b
invariant-loop-b l = (l.value < 4294967296) × (value_from l.value (drop l.b-index l.word) ≡ value_from 0 l.word)
