use Rattle.std.proofs.Common.{◌<◌, length, arith}
use Rattle.drawing.proofs.Indexes.{list-in, list-out, list-end}
use Rattle.drawing.proofs.tree.present_links.Goals as goal
use Rattle.drawing.proofs.tree.present_links.Goals.{then-link, else-link}

pub loop-i-preserved : goal.loop-i-preserved
loop-i-preserved g c =
    let links = c.args.links.now in
    let x = c.index-links-i.result in
    let room : c.loop-i.p < length c.loop-i.order = omega (arith, c.requires.0) in
    elim c.if-link.branch [
      | then-link w ↦
          rw (w.order-is, w.p-is)
          (omega (arith, c.loop-i.invariant.0), list-in links c.loop-i.i x c.loop-i-test.true c.index-links-i.is c.loop-i.order c.loop-i.p room w.if-link.true c.loop-i.invariant.1)
      | else-link w ↦
          rw (w.order-is, w.p-is)
          (omega (arith, c.loop-i.invariant.0), list-out links c.loop-i.i x c.loop-i-test.true c.index-links-i.is _ w.if-link.false c.loop-i.invariant.1)
    ]

pub returns : goal.returns
returns g c = record { within = omega (arith, c.loop-i.invariant.0); present = list-end c.args.links.now _ _ c.loop-i-test.false c.loop-i.invariant.1 }
