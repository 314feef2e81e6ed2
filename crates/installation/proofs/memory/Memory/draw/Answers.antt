use Rattle.std.proofs.Common.{◌-◌, length, sym, refl, ap, ◌∙◌}
use borrow.Rule.Slice.PartMut.{put_mid, put_same}
use Rattle.installation.specs.Hands.{hand}
use Rattle.installation.proofs.Held.{draw-waits, draw-makes, draw-fails, cut-is, put_is}
use Rattle.installation.proofs.memory.Memory.draw.Goals as goal

pub returns-then-not-may_draw-clause-made : goal.returns-then-not-may_draw-clause-made
returns-then-not-may_draw-clause-made g c = λ f.
    draw-waits g.W.Ordered.side g.F.Fabric.carrying c.args.batch (hand c.args.book.now c.args.self.now c.args.state.now f) (sym c.if-not-may_draw.ensures)

pub returns-in-Ok-clause-made : goal.returns-in-Ok-clause-made
returns-in-Ok-clause-made g c =
    let m = g.met.W.Ordered in
    let q = c.draw.new in
    let e = c.in-Ok.ensures in
    let b = c.args.batch in
    let book = c.args.book.now in
    let ps = c.args.self.now.plans.now in
    let st = c.args.self.now.start.now in
    let en = c.args.self.now.entries.now in
    let i = c.part_of-a in
    let j = c.part_of-c in
    let ws = cut-is (length ps) b.slot i.result.0 i.result.1 st i.ensures.from i.ensures.to in
    let we = cut-is (length ps) b.slot j.result.0 j.result.1 en j.ensures.from j.ensures.to in
    λ f.
    draw-makes g.W.Ordered.side g.F.Fabric.carrying b (hand book c.args.self.now c.args.state.now f) (sym c.if-not-may_draw.ensures)
    (record { level = m.level; mirrored = m.mirrored; back = m.back; passes = m.passes }) book.sound _
    c.in-Ok.counts q.start q.entries
    (rw (← ws, ← we) e.answer)
    e.same.0 e.same.1 e.same.2 refl c.draw.auto.work refl refl refl refl e.links e.tree
    (rw (← ws) e.start) (rw (← ws) c.draw.auto.start)
    (put_is (length ps) b.slot i.result.0 i.result.1 st i.ensures.from i.ensures.to q.start)
    (rw (← we) e.entries) (rw (← we) c.draw.auto.entries)
    (put_is (length ps) b.slot j.result.0 j.result.1 en j.ensures.from j.ensures.to q.entries)

pub returns-in-Err-clause-made : goal.returns-in-Err-clause-made
returns-in-Err-clause-made g c =
    let e = c.in-Err.ensures in
    let b = c.args.batch in
    let book = c.args.book.now in
    let ps = c.args.self.now.plans.now in
    let st = c.args.self.now.start.now in
    let en = c.args.self.now.entries.now in
    let i = c.part_of-a in
    let j = c.part_of-c in
    let ws = cut-is (length ps) b.slot i.result.0 i.result.1 st i.ensures.from i.ensures.to in
    let we = cut-is (length ps) b.slot j.result.0 j.result.1 en j.ensures.from j.ensures.to in
    λ f.
    draw-fails g.W.Ordered.side g.F.Fabric.carrying b (hand book c.args.self.now c.args.state.now f) (sym c.if-not-may_draw.ensures) _ c.in-Err.fault
    (rw (← ws, ← we) e.answer)
    (record {
      n = e.same.0;
      ends = e.same.1;
      links = e.links;
      tree = e.tree;
      refusal = e.same.2;
      plans = refl;
      changes = refl;
      start = ap (put_mid i.result.0 (i.result.1 - i.result.0) st) e.start ∙ put_same i.result.0 (i.result.1 - i.result.0) st;
      entries = ap (put_mid j.result.0 (j.result.1 - j.result.0) en) e.entries ∙ put_same j.result.0 (j.result.1 - j.result.0) en;
      work = c.draw.auto.work;
    }) refl refl refl
