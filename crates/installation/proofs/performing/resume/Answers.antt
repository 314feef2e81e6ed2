use Rattle.std.proofs.Common.{◌≡◌, ℕ, ◌+◌, ◌<◌, ◌≤◌, List, Bool, length, get_or, take, refl, ◌∙◌, arith}
use Rattle.weights.specs.declared.order.Side.{Side}
use Rattle.promise.specs.declared.answer.Answer.{Answer}
use Rattle.promise.proofs.Keeps.{never-broken}
use Rattle.installation.specs.declared.call.Line.{Line}
use Rattle.installation.specs.Perform.{calls, answers}
use Rattle.installation.specs.Hands.{Hand, Makes, Leads, hand}
use Rattle.installation.proofs.Tables.{tables-kept, kept-then}
use Rattle.installation.proofs.Logs.{blank, noted, calls-noted, answers-noted, calls-on, whole-log}
use Rattle.installation.proofs.Held.{turns-run, leads-none, leads-on}
use Rattle.installation.proofs.performing.resume.Goals as goal

-- One more line: its call was made, and what it answered was written into it.
one-more : {W F : Type 0} (side : W → W → Side) (carrying : F → List Bool) (from now next : Hand W F) (old log : List Line) (i : ℕ) (a : Answer)
    → i < length log → calls log ≡ calls old → Leads side carrying from (take i (calls old)) (take i (answers log)) now
    → Makes side carrying now (get_or log i blank).call a next
    → Leads side carrying from (take (i + 1) (calls old)) (take (i + 1) (answers (noted log i a))) next
one-more side carrying from now next old log i a h e run made =
    rw (← calls-on log old i h e, answers-noted log i a h)
    (leads-on side carrying from now next (take i (calls old)) (take i (answers log)) (get_or log i blank).call a run made)

pub loop-line-init : goal.loop-line-init
loop-line-init g c = record {
  run = leads-none g.W.Ordered.side g.F.Fabric.carrying (hand c.args.book.now c.args.memory.now c.args.state c.args.fabric.now);
  log = refl;
  lent = (refl, refl);
  held = tables-kept c.args.memory.now;
  same = refl;
}

pub loop-line-preserved : goal.loop-line-preserved
loop-line-preserved g c =
    let l = c.loop-line in
    let i = l.line-index in
    let old = c.args.log.now in
    let log = l.log in
    let r = c.make-answer.result in
    let e = c.make-answer.ensures in
    let h : i < length log = let k = l.auto.log in let t = c.loop-line-test.true in omega arith in
    record {
      run = one-more g.W.Ordered.side g.F.Fabric.carrying _ _ _ old log i r.answer h l.invariant.log l.invariant.run e.made;
      log = calls-noted log i r.answer h ∙ l.invariant.log;
      lent = (e.lent.0 ∙ l.invariant.lent.0, e.lent.1 ∙ l.invariant.lent.1);
      held = kept-then l.invariant.held e.held;
      same = e.same ∙ l.invariant.same;
    }

pub returns-clause-run : goal.returns-clause-run
returns-clause-run g c =
    let l = c.loop-line in
    let old = c.args.log.now in
    let n : length l.log ≤ l.line-index = let k = l.auto.log in let t = c.loop-line-test.false in omega arith in
    let o : length old ≤ l.line-index = let k = l.auto.log in omega arith in
    rw (← (whole-log l.line-index old o).0, ← (whole-log l.line-index l.log n).1) l.invariant.run

pub returns-clause-never : goal.returns-clause-never
returns-clause-never g c =
    let w = g.met.W.Ordered in
    never-broken g.W.Ordered.side (record { level = w.level; mirrored = w.mirrored; back = w.back; passes = w.passes }) g.F.Fabric.carrying

pub returns-clause-steps : goal.returns-clause-steps
returns-clause-steps g c = turns-run g.W.Ordered.side g.F.Fabric.carrying
