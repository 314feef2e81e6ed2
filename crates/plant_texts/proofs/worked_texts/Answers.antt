use Rattle.std.proofs.Common.{refl}
use Rattle.std.specs.Fmt.{digits}
use Rattle.plant_text.specs.Body.{body}
use Rattle.plant_lines.specs.Line.{numbers}
use Rattle.text_words.specs.Number.{value_from}
use Rattle.plant_texts.proofs.worked_texts.Goals as goal

pub returns : goal.returns
unfolding body numbers value_from digits
returns c = record {
  read = refl;
  refused = (refl, refl, refl, refl, refl, refl, refl, refl);
  printed = (refl, refl, refl, refl, refl, refl, refl, refl, refl);
}
