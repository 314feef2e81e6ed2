use Rattle.std.proofs.Common.{Some, sym, ap, ◌∙◌, arith}
use Rattle.std.proofs.lemmas.Bool.{cond-true, cond-false}
use Rattle.leaves.proofs.Leaves.{leader-few, leader-two}
use Rattle.leaves.proofs.single.Thinned.first.Goals as goal

pub returns-in_default : goal.returns-in_default
returns-in_default c = leader-few c.args.places.now c.args.self.links.now (omega arith)

pub returns-then-not-crosses : goal.returns-then-not-crosses
returns-then-not-crosses c =
    let w = leader-two c.args.places.now c.args.self.links.now c.from-e.result c.from-f.result c.from-e.ensures c.from-f.ensures (omega arith) (omega arith) in
    sym (w ∙ cond-false _ _ _ (sym c.crosses.ensures ∙ c.if-not-crosses.true))

pub returns-then-earlier : goal.returns-then-earlier
returns-then-earlier c =
    let w = leader-two c.args.places.now c.args.self.links.now c.from-e.result c.from-f.result c.from-e.ensures c.from-f.ensures (omega arith) (omega arith) in
    sym (w ∙ cond-true _ _ _ (sym c.crosses.ensures ∙ c.if-not-crosses.false) ∙ ap Some (cond-true _ _ _ (sym c.earlier.ensures ∙ c.if-earlier.true)))

pub returns-else-earlier : goal.returns-else-earlier
returns-else-earlier c =
    let w = leader-two c.args.places.now c.args.self.links.now c.from-e.result c.from-f.result c.from-e.ensures c.from-f.ensures (omega arith) (omega arith) in
    sym (w ∙ cond-true _ _ _ (sym c.crosses.ensures ∙ c.if-not-crosses.false) ∙ ap Some (cond-false _ _ _ (sym c.earlier.ensures ∙ c.if-earlier.false)))
