use Rattle.std.proofs.Common.{◌≡◌, refl, rules}
use Rattle.installation.specs.Hands.{hand, open_answer}
use Rattle.installation.proofs.Held.{makes-as, open-again, play-waits, play-makes, to-player}
use Rattle.installation.proofs.performing.make.Goals as goal

pub returns-in-Open-clause-made : goal.returns-in-Open-clause-made
returns-in-Open-clause-made g c =
    let told : c.map_or.result ≡ open_answer c.args.book.now.refusal = search rules in
    makes-as _ _ c.in-Open.is told (open-again _ _ (hand c.args.book.now c.args.memory.now c.args.state c.args.fabric.now))

pub returns-in-Draw-clause-made : goal.returns-in-Draw-clause-made
returns-in-Draw-clause-made g c = makes-as _ _ c.in-Draw.is refl (c.draw-answer.ensures.made c.args.fabric.now)

pub returns-in-None-clause-made : goal.returns-in-None-clause-made
returns-in-None-clause-made g c =
    let e = rw c.place_of.ensures at c.in-None.ensures in
    play-waits _ _ c.args.call (hand c.args.book.now c.args.memory.now c.args.state c.args.fabric.now)
    (to-player c.args.call c.in_default.not-Open c.in_default.not-Draw) e

pub returns-in-Some-clause-made : goal.returns-in-Some-clause-made
returns-in-Some-clause-made g c =
    let e = rw c.place_of.ensures at c.in-Some.ensures in
    let tp = to-player c.args.call c.in_default.not-Open c.in_default.not-Draw in
    play-makes g.W.Ordered.side g.F.Fabric.carrying c.args.call c.play-seat.result.answer (hand c.args.book.now c.args.memory.now c.args.state c.args.fabric.now) _ _ tp e
    (record { n = refl; ends = refl; links = refl; tree = refl; refusal = refl; plans = refl; changes = refl; start = refl; entries = refl; work = refl })
    c.slot_after-slot.ensures (c.play-seat.ensures.turn tp c.args.state.slot)
