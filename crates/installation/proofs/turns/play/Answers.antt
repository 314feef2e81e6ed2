use Rattle.std.proofs.Common.{ℕ, refl, ap, ◌∙◌}
use Rattle.promise.specs.declared.answer.Answer.TheVariants.{Finished, Abandoned}
use Rattle.installation.proofs.Turned.{placed, free-waits, still-waits, moving-waits, abandoned, finished, laid-plan, lay-fails, forwarded, backwarded, joined, cancelled}
use Rattle.installation.proofs.turns.play.Goals as goal

pub returns-in-Ok-clause-turn : goal.returns-in-Ok-clause-turn
returns-in-Ok-clause-turn g c =
    placed _ _ _ c.in-Lay.is c.in-Free.is (c.into.ensures, refl)
    (λ _ slot. laid-plan _ _ _ c.in-Lay.field-0 c.args.fabric.now c.lay.new.fabric c.in-Ok.player c.in-Ok.ensures.answer)

pub returns-in-Err-clause-turn : goal.returns-in-Err-clause-turn
returns-in-Err-clause-turn g c =
    placed _ _ _ c.in-Lay.is c.in-Free.is c.vacated.ensures
    (λ _ slot. lay-fails _ _ _ c.in-Lay.field-0 c.args.fabric.now c.lay.new.fabric c.in-Err.fault c.in-Err.ensures.answer)

pub returns-in_default-clause-turn : goal.returns-in_default-clause-turn
returns-in_default-clause-turn g c =
    placed _ _ _ refl c.in-Free.is c.not_made.ensures
    (free-waits _ _ _ c.args.fabric.now c.args.call c.in_default.not-Lay)

pub returns-in-Forward-clause-turn : goal.returns-in-Forward-clause-turn
returns-in-Forward-clause-turn g c =
    placed _ _ _ c.in-Forward.is c.in-Still.is (refl, refl)
    (λ _ slot. forwarded _ _ _ slot c.args.fabric.now c.forward.new.fabric c.in-Still.player c.forward.result c.forward.ensures.answer c.into-in-Forward.ensures)

pub returns-in-Backward-clause-turn : goal.returns-in-Backward-clause-turn
returns-in-Backward-clause-turn g c =
    placed _ _ _ c.in-Backward.is c.in-Still.is (refl, refl)
    (λ _ slot. backwarded _ _ _ slot c.args.fabric.now c.backward.new.fabric c.in-Still.player c.backward.result c.backward.ensures.answer c.into-in-Backward.ensures)

pub returns-in-Finish-clause-turn : goal.returns-in-Finish-clause-turn
returns-in-Finish-clause-turn g c =
    placed _ _ _ c.in-Finish.is c.in-Still.is (c.vacated-in-Finish.ensures.0, c.vacated-in-Finish.ensures.1 ∙ ap Finished c.finish.ensures)
    (λ _ slot. finished _ _ _ slot c.args.fabric.now c.in-Still.player)

pub returns-in_default-call-clause-turn : goal.returns-in_default-call-clause-turn
returns-in_default-call-clause-turn g c =
    placed _ _ _ refl c.in-Still.is (c.not_made-in_default-call.ensures.0 ∙ c.into-in_default-call.ensures, c.not_made-in_default-call.ensures.1)
    (still-waits _ _ _ c.args.fabric.now c.in-Still.player c.args.call c.in_default-call.not-Forward c.in_default-call.not-Backward c.in_default-call.not-Finish)

pub returns-in-Join-clause-turn : goal.returns-in-Join-clause-turn
returns-in-Join-clause-turn g c =
    placed _ _ _ c.in-Join.is c.in-Moving.is (refl, refl)
    (λ _ slot. joined _ _ _ slot c.args.fabric.now c.join.new.fabric c.in-Moving.player c.join.result c.join.ensures.answer c.into-in-Join.ensures)

pub returns-in-Cancel-clause-turn : goal.returns-in-Cancel-clause-turn
returns-in-Cancel-clause-turn g c =
    placed _ _ _ c.in-Cancel.is c.in-Moving.is (refl, refl)
    (λ _ slot. cancelled _ _ _ slot c.args.fabric.now c.cancel.new.fabric c.in-Moving.player c.cancel.result c.cancel.ensures.answer c.into-in-Cancel.ensures)

pub returns-in-Abandon-clause-turn : goal.returns-in-Abandon-clause-turn
returns-in-Abandon-clause-turn g c =
    placed _ _ _ c.in-Abandon.is c.in-Moving.is (c.vacated-in-Abandon.ensures.0, c.vacated-in-Abandon.ensures.1 ∙ ap (λ (r : ℕ × ℕ). Abandoned r.0 r.1) c.abandon-leaving.ensures)
    (λ _ slot. abandoned _ _ _ slot c.args.fabric.now c.in-Moving.player)

pub returns-in_default-call-2-clause-turn : goal.returns-in_default-call-2-clause-turn
returns-in_default-call-2-clause-turn g c =
    placed _ _ _ refl c.in-Moving.is (c.not_made-in_default-call-2.ensures.0 ∙ c.into-in_default-call-2.ensures, c.not_made-in_default-call-2.ensures.1)
    (moving-waits _ _ _ c.args.fabric.now c.in-Moving.player c.args.call c.in_default-call-2.not-Join c.in_default-call-2.not-Cancel c.in_default-call-2.not-Abandon)
