use Rattle.std.proofs.Common.{◌<◌, ◌≤◌, length, get_or, refl, ◌∙◌, arith}
use Rattle.promise.specs.declared.answer.Answer.TheVariants.{NotMade}
use Rattle.installation.specs.Perform.{done}
use Rattle.installation.proofs.Logs.{blank, calls-noted, answers-noted, calls-on, whole-log}
use Rattle.installation.proofs.Held.{turns-on, new-waits}
use Rattle.installation.proofs.performing.wait.Goals as goal

pub loop-i-init : goal.loop-i-init
loop-i-init g c = (refl, λ t f. done)

pub loop-i-preserved : goal.loop-i-preserved
loop-i-preserved g c =
    let side = g.W.Ordered.side in
    let carrying = g.F.Fabric.carrying in
    let i = c.loop-i.i in
    let log = c.loop-i.log in
    let old = c.args.log.now in
    let e = c.loop-i.invariant.0 in
    let h : i < length log = let k = c.loop-i.auto.log in let t = c.loop-i-test.true in omega arith in (
      calls-noted log i NotMade h ∙ e,
      λ t f.
          let x = turns-on side carrying (get_or log i blank).call NotMade (c.loop-i.invariant.1 t f) (new-waits side carrying (get_or log i blank).call c.in_default.not-Open t f) in
          rw (← calls-on log old i h e, answers-noted log i NotMade h) x,
    )

pub returns-clause-run : goal.returns-clause-run
returns-clause-run g c = λ t f.
    let l = c.loop-i in
    let old = c.args.log.now in
    let n : length l.log ≤ l.i = let k = l.auto.log in let q = c.loop-i-test.false in omega arith in
    let o : length old ≤ l.i = let k = l.auto.log in omega arith in
    rw (← (whole-log l.i old o).0, ← (whole-log l.i l.log n).1) (l.invariant.1 t f)
