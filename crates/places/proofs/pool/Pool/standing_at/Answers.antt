use Rattle.std.proofs.Common.{sym, arith}
use Rattle.places.proofs.Weights.{weights-link, weights-change, weights-past}
use Rattle.places.proofs.pool.Pool.standing_at.Goals as goal

pub returns-then-q-self : goal.returns-then-q-self
returns-then-q-self g c = sym (weights-link c.args.self.now.links.now c.args.self.now.batch.now c.args.q c.index-self-q.result c.if-q-self.true)

pub returns-then-j-self : goal.returns-then-j-self
returns-then-j-self g c =
    let e = weights-change c.args.self.now.links.now c.args.self.now.batch.now c.args.q c.index-self-j.result (omega arith) c.if-j-self.true in
    let s = c.set_to.ensures in
    let i = c.index-self-j.is in
    cc

pub returns-else-j-self : goal.returns-else-j-self
returns-else-j-self g c = sym (weights-past c.args.self.now.links.now c.args.self.now.batch.now c.args.q (omega arith))
