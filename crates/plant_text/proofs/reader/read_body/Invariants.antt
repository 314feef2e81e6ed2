use Rattle.std.proofs.Common.{◌≡◌, ◌+◌, ◌<◌, ◌≤◌, length, vec_capacity}
use Rattle.plant_tables.specs.File.{seen}
use Rattle.plant_tables.specs.Room.{Roomy}
use Rattle.plant_text.specs.Body.{body}
use Rattle.text_words.specs.Split.{parts}
use Rattle.plant_text.proofs.reader.read_body.Given as goal

abbrev pub invariant-loop-row : goal.invariant-loop-row
invariant-loop-row g l = record {
  few : l.line + length l.rest ≤ 4097;
  short : length l.rest < 4096;
  left : body g.W.Weight.made (seen l.tables) l.line (parts 10 l.rest) ≡ body g.W.Weight.made (seen l.initial.tables) 2 (parts 10 l.text);
  room : 4096 ≤ vec_capacity l.numbers;
  roomy : Roomy l.tables;
}

abbrev pub decreases-loop-row : goal.decreases-loop-row
decreases-loop-row g l = length l.rest
