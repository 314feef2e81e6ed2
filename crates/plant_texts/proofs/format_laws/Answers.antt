use Rattle.plant_texts.proofs.Writing.{parts_join, numbers-one-way}
use Rattle.plant_texts.proofs.Back.{reads-back}
use Rattle.plant_texts.proofs.format_laws.Goals as goal

pub returns : goal.returns
returns c = record { texts = reads-back; parts = parts_join; numbers = numbers-one-way }
