use Rattle.std.proofs.Common.{◌≡◌, ℕ, ◌+◌, ◌-◌, ◌<◌, ◌∷◌, ◌++◌, length, take, drop, replicate, None, sym, refl, ap, ◌∙◌, subst, rules, arith}
use borrow.Rule.Slice.PartMut.{put_mid}
use Rattle.std.proofs.lemmas.List.{length-map, drop-map}
use Rattle.std.proofs.lemmas.Slice.{between_to_end}
use Rattle.promise.specs.Calls.{none}
use Rattle.promise.specs.Installation.{new}
use Rattle.promise.proofs.Keeps.{never-broken}
use Rattle.installation.specs.declared.call.Line.{Line}
use Rattle.installation.specs.declared.seat.Seat.TheVariants.{Free}
use Rattle.installation.specs.Perform.{lent, fresh, calls, answers, plan_at, start_in, entries_in, Seated}
use Rattle.installation.specs.Hands.{Hand, hand, first_answer, Leads}
use Rattle.installation.proofs.Tables.{table_is}
use Rattle.installation.proofs.Logs.{noted, calls-noted, log-joined, answers-joined, calls-joined}
use Rattle.installation.proofs.Held.{turns-run, new-plans, new-start, new-entries, first-open, links-left, tree-left, performs}
use Rattle.installation.proofs.performing.perform.Goals as goal

pub returns-in_default-clause-run : goal.returns-in_default-clause-run
returns-in_default-clause-run g c =
    let side = g.W.Ordered.side in
    let carrying = g.F.Fabric.carrying in
    let w = g.met.W.Ordered in
    let l = lent c.args.tables c.args.memory.now in
    let f = c.args.fabric.now in
    let never = never-broken side (record { level = w.level; mirrored = w.mirrored; back = w.back; passes = w.passes }) carrying in
    let emptied : c.fill.new.self ≡ replicate l.slots None = c.fill.ensures.after (λ y h. search rules) in (
      fresh l f,
      c.in_default.ensures.run l f,
      record {
        nodes = refl;
        ends = refl;
        links = refl;
        tree = refl;
        plans = emptied ∙ new-plans side carrying l.slots;
        start = table_is l.slots _ l.start l.start (new-start side carrying l);
        entries = table_is l.slots _ l.entries l.entries (new-entries side carrying l);
        player = refl;
        fabric = refl;
      },
      never.stands (new f) (f, none),
    )

pub returns-in_default-clause-never : goal.returns-in_default-clause-never
returns-in_default-clause-never g c =
    let w = g.met.W.Ordered in
    never-broken g.W.Ordered.side (record { level = w.level; mirrored = w.mirrored; back = w.back; passes = w.passes }) g.F.Fabric.carrying

pub returns-in_default-clause-steps : goal.returns-in_default-clause-steps
returns-in_default-clause-steps g c = turns-run g.W.Ordered.side g.F.Fabric.carrying

pub returns-clause-run : goal.returns-clause-run
returns-clause-run g c =
    let side = g.W.Ordered.side in
    let carrying = g.F.Fabric.carrying in
    let l = lent c.args.tables c.args.memory.now in
    let f = c.args.fabric.now in
    let cs = calls c.args.log.now in
    let log = c.wait.new.log in
    let at = c.in-Some.at in
    let b = c.open-book.result in
    let o = c.open-book.ensures in
    let q = c.resume-state.new in
    let r = c.resume-state.result in
    let s = c.resume-state.ensures in
    let k = hand q.book q.memory r q.fabric in
    let h : Hand _ _ = record {
      n = b.n;
      ends = b.ends.now;
      links = b.links.now;
      tree = b.tree.now;
      refusal = b.refusal;
      plans = c.fill.new.self;
      changes = c.args.memory.now.changes.now;
      start = c.args.memory.now.start.now;
      entries = c.args.memory.now.entries.now;
      work = length c.open-book.new.work;
      seat = Free;
      at = 0;
      fabric = f;
    } in
    let first = c.in-Some.ensures.first in
    let in1 : at < length cs = let n = length-map c.args.log.now (λ (x : Line). x.call) in let i = first.0 in omega arith in
    let in2 : at < length log = let u = c.wait.auto.log in let i = first.0 in omega arith in
    let a = c.map_or.result in
    let a-is : a ≡ first_answer b.refusal = search rules in
    let written = noted log at a in
    let long = length written - (at + 1) in
    let tail-calls : calls (take long (drop (at + 1) written)) ≡ drop (at + 1) cs =
    ap calls (between_to_end written (at + 1) (length written) (omega arith)) ∙ sym (drop-map (λ (x : Line). x.call) (at + 1) written)
    ∙ ap (drop (at + 1)) (calls-noted log at a in2 ∙ c.wait.ensures.log) in
    let opens = first-open side carrying l f h o.answer o.nodes o.ends o.links o.tree (c.fill.ensures.after (λ y h. search rules)) refl refl refl c.open-book.auto.work refl refl refl in
    let rest : Leads side carrying h (drop (at + 1) cs) (answers q.log) k =
    rw (← tail-calls) s.run in
    let x = performs side carrying l f cs (take at (answers log)) (answers q.log) at h k in1 first.1 (c.in-Some.ensures.run l f) opens rest in
    let y = x.2 in
    let told : answers (put_mid (at + 1) long written q.log) ≡ take at (answers log) ++ first_answer b.refusal ∷ answers q.log =
    ap answers (log-joined (at + 1) long written q.log (omega arith)) ∙ answers-joined at log q.log a in2 ∙ ap (λ v. take at (answers log) ++ v ∷ answers q.log) a-is in
    let z = c.close.ensures in (
      x.0,
      rw told x.1,
      record {
        nodes = z.nodes ∙ y.nodes;
        ends = z.ends ∙ y.ends;
        links = z.links ∙ links-left side carrying l x.0.installation.book k q.book.refusal y.book;
        tree = z.tree ∙ tree-left side carrying l x.0.installation.book k q.book.refusal y.book;
        plans = y.plans;
        start = table_is l.slots (start_in x.0.plans) l.start q.memory.start.now y.start;
        entries = table_is l.slots (entries_in x.0.plans) l.entries q.memory.entries.now y.entries;
        player = subst (λ (n : ℕ). Seated r.seat (plan_at x.0.plans n) x.0.installation.player) (sym y.at) y.player;
        fabric = y.fabric;
      },
      s.never.stands x.0.installation (f, s.steps l (fresh l f) x.0 cs (take at (answers log) ++ first_answer b.refusal ∷ answers q.log) x.1),
    )

pub returns-clause-log : goal.returns-clause-log
returns-clause-log g c =
    let log = c.wait.new.log in
    let at = c.in-Some.at in
    let written = noted log at c.map_or.result in
    let in2 : at < length log = let u = c.wait.auto.log in let i = c.in-Some.ensures.first.0 in omega arith in
    let same-calls : calls written ≡ calls c.args.log.now = calls-noted log at c.map_or.result in2 ∙ c.wait.ensures.log in
    ap calls (log-joined (at + 1) (length written - (at + 1)) written c.resume-state.new.log (omega arith))
    ∙ calls-joined (at + 1) written c.resume-state.new.log
    (c.resume-state.ensures.log ∙ ap calls (between_to_end written (at + 1) (length written) (omega arith)) ∙ sym (drop-map (λ (x : Line). x.call) (at + 1) written))
    ∙ same-calls
