use Rattle.std.proofs.Common.{sym}
use Rattle.places.proofs.Commits.{changes-told, changed-none}
use Rattle.places.proofs.changes.change_links.Goals as goal

pub loop-change-init : goal.loop-change-init
loop-change-init g c = sym (changed-none c.args.links.now c.args.batch.now)

pub loop-change-preserved : goal.loop-change-preserved
loop-change-preserved g c =
    changes-told c.args.links.now c.loop-change.links c.change_link.new.links c.args.batch.now c.loop-change.change-index c.change-item.result
    c.loop-change-test.true c.change-item.is c.loop-change.invariant c.change_link.ensures
