use Rattle.std.proofs.Common.{sym, ap, ◌∙◌, ⊎_elim, arith}
use Rattle.plant_text.specs.Plant.{opened}
use Rattle.text_words.specs.Split.{parts}
use Rattle.plant_text.proofs.Wholes.{whole_item}
use Rattle.plant_text.proofs.reader.read_plant.Goals as goal

pub returns-in-Head-clause-told : goal.returns-in-Head-clause-told
returns-in-Head-clause-told c =
    let told = whole_item _ _ _ (omega arith) c.if-lacks_head.ensures c.in-Some.ensures _ c.in_ok-kind.ensures.told in
    c.read_rest.ensures.told ∙ sym (told ∙ ap (opened (parts 10 c.in-Some.rest.now)) c.in-Head.is)

pub returns-in-Link-clause-told : goal.returns-in-Link-clause-told
returns-in-Link-clause-told c =
    let told = whole_item _ _ _ (omega arith) c.if-lacks_head.ensures c.in-Some.ensures _ c.in_ok-kind.ensures.told in
    ⊎_elim
    (λ w. sym (told ∙ ap (opened (parts 10 c.in-Some.rest.now)) w.2))
    (λ w. sym (told ∙ ap (opened (parts 10 c.in-Some.rest.now)) w.1))
    c.in-Link.is
