use Rattle.std.proofs.Common.{◌≡◌, ◌++◌, length, drop, vec_items, vec_len, vec_capacity}
use Rattle.std.specs.Option.{option_map}
use Rattle.plant_lines.specs.Line.{numbers}
use Rattle.text_words.specs.Split.{parts}
use Rattle.plant_lines.proofs.line.read_numbers.Given as goal

abbrev pub invariant-loop-word : goal.invariant-loop-word
invariant-loop-word l = record {
  read : numbers (parts 32 l.text) ≡ option_map (λ ns. vec_items l.numbers ++ ns) (numbers (drop (length l.yielded) (parts 32 l.text)));
  count : vec_len l.numbers ≡ length l.yielded;
  room : vec_capacity l.numbers ≡ vec_capacity l.initial.numbers;
}
