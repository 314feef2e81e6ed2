use Rattle.std.proofs.Common.{length, ap, ◌∙◌, arith}
use Rattle.network.specs.Ends.{unless}
use Rattle.places.proofs.Judging.{states-length, judged-absent, judged-present}
use Rattle.places.proofs.pool.Tracked.check.Goals as goal

pub returns-in-Remove : goal.returns-in-Remove
returns-in-Remove g c = λ links e.
    let n = ap length e ∙ states-length links in
    let k = c.link_of-k.ensures in
    let s = c.if-self-k-eq0.true in
    ap (λ f. unless f tt) (judged-absent c.args.i links c.args.change.now _ c.in-Remove.is (omega arith) (omega arith) (cc))

pub returns-in_default : goal.returns-in_default
returns-in_default g c = λ links e.
    let n = ap length e ∙ states-length links in
    let k = c.link_of-k.ensures in
    ap (λ f. unless f tt) (judged-present c.args.i links c.args.change.now _ c.in-Remove.is (omega arith) (omega arith) (λ h. c.if-self-k-eq0.false (cc)))
