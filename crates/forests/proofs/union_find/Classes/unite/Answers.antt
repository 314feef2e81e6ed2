use Rattle.std.proofs.Common.{◌≡◌, ◌<◌, ◌∷◌, length, sym, ap, ◌∙◌, subst, arith}
use Rattle.graphs.specs.Graph.{label}
use Rattle.forests.specs.declared.union_find.Classes.{Classes}
use Rattle.forests.specs.Union.{Holds}
use Rattle.forests.proofs.Parents.{holds-hung, holds-joined}
use Rattle.forests.proofs.union_find.Classes.unite.Goals as goal
use Rattle.forests.proofs.union_find.Classes.unite.Goals.{then-p-q, else-p-q+then-q-p, else-p-q+else-q-p}

pub returns-clause-joins : goal.returns-clause-joins
returns-clause-joins c =
    let ps = c.find-q.new.self.parent.now in
    let p = c.find-p.result in
    let q = c.find-q.result in
    let np : length c.find-p.new.self.parent.now ≡ length c.args.self.now.parent.now = c.find-p.ensures.size in
    let nq : length ps ≡ length c.find-p.new.self.parent.now = c.find-q.ensures.size in
    let lp : p < length ps = omega (arith, c.find-p.ensures.below) in
    let lq : q < length ps = omega (arith, c.find-q.ensures.below) in
    λ es e ea eb h.
    let fp = c.find-p.ensures.finds es h in
    let fq = c.find-q.ensures.finds es fp.1 in
    let ep : label es e.a.0 ≡ p = ap (label es) ea ∙ sym fp.0 in
    let eq : label es e.b.0 ≡ q = ap (label es) eb ∙ sym fq.0 in (
      (cc),
      elim c.if-p-q.branch [
        | then-p-q w ↦ subst (λ (s : Classes). Holds (e ∷ es) s.parent.now) (sym w.self-is) (holds-hung e es ps p q lq w.if-p-q.true (omega (arith, w.if-p-q.true)) (omega (arith, w.if-p-q.true)) fq.1)
        | else-p-q+then-q-p w ↦ subst (λ (s : Classes). Holds (e ∷ es) s.parent.now) (sym w.self-is) (holds-hung e es ps q p lp w.if-q-p.true (omega (arith, w.if-q-p.true)) (omega (arith, w.if-q-p.true)) fq.1)
        | else-p-q+else-q-p w ↦ subst (λ (s : Classes). Holds (e ∷ es) s.parent.now) (sym w.self-is) (holds-joined e es ps (omega (arith, w.if-q-p.false, w.if-p-q.false)) fq.1)
      ],
    )
