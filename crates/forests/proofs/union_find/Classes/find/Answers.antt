use Rattle.std.proofs.Common.{◌≤◌, get_or, refl, ap, ◌∙◌, arith}
use Rattle.std.proofs.lemmas.List.{length-set}
use Rattle.graphs.specs.Graph.{label}
use Rattle.forests.proofs.Parents.{halved}
use Rattle.forests.proofs.union_find.Classes.find.Goals as goal

pub loop-up-preserved : goal.loop-up-preserved
loop-up-preserved c =
    let ps = c.loop-up.self.parent.now in
    let at = c.loop-up.at in
    let up = c.loop-up.up in
    let next = get_or ps up 0 in
    let i = c.loop-up.invariant in
    let f1 : up ≤ at = omega (arith, c.loop-up.self.falls at i.0) in
    let f2 : next ≤ up = c.loop-up.self.falls up (omega arith) in
    let n = length-set ps at next in (
      omega arith,
      omega arith,
      refl,
      omega (arith, i.3),
      i.4,
      λ es h. let k = i.5 es h in (
        halved es ps at up next i.0 i.2 refl c.loop-up-test.true k.0,
        k.0.same up (omega arith) ∙ (ap (label es) i.2 ∙ k.0.same at i.0) ∙ k.1,
      ),
    )
