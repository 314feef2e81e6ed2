use Rattle.std.proofs.Common.{◌≡◌, ◌+◌, false, ◌&&◌, [], refl, sym, ◌∙◌, subst, arith}
use mathlib.Core.Bool.{beq}
use Rattle.fabrics.specs.Meaning.{carries, Looks}
use Rattle.player.specs.Start.{Parts}
use Rattle.player.proofs.Only.{Judged, judged-more, judged-all, unlisted}
use Rattle.player.proofs.Places.{parts-start, parts-step, parts-after-miss}
use Rattle.player.proofs.Walks.{list-nonzero}
use Rattle.player.proofs.laying.survey.Goals as goal
use Rattle.player.proofs.laying.survey.Goals.{then-listed, else-listed}

pub loop-link-init : goal.loop-link-init
loop-link-init g c = (
  record { yes = λ t k a b. absurd (omega arith); no = λ f. cc },
  record { yes = λ t k a b. absurd (omega arith); no = λ f. cc },
  omega arith,
  λ a. parts-start c.args.list.now.links.now (c.args.list.now.order a) (list-nonzero c.args.m [] c.args.list.now.links.now c.requires.sound),
)

pub loop-link-preserved : goal.loop-link-preserved
loop-link-preserved g c =
    let k = g.F.Fabric.carrying c.args.fabric.now in
    let xs = c.args.list.now.links.now in
    let link = c.loop-link.link in
    let on : c.unwrap-on.result ≡ carries k link = (subst (Looks k link) c.unwrap-on.ensures c.look.ensures).1 in (
      subst (Judged c.args.m [] k (link + 1)) (unlisted _ _) (judged-more c.args.m [] k c.requires.size link (omega arith) (omega arith) _ _ false c.loop-link.invariant.0 on refl),
      judged-more c.args.m xs k c.requires.size link (omega arith) (omega arith) _ _ _ c.loop-link.invariant.1 on c.lists_at-listed.ensures,
      elim c.if-listed.branch [
        | then-listed w ↦ omega (arith, w.at-is, c.loop-link.invariant.2)
        | else-listed w ↦ omega (arith, w.at-is, c.loop-link.invariant.2)
      ],
      λ a. elim c.if-listed.branch [
        | then-listed w ↦
            subst (λ i. Parts xs i (link + 1)) (sym w.at-is)
            (parts-step xs c.loop-link.at link (c.loop-link.invariant.3 a) (sym c.lists_at-listed.ensures ∙ w.if-listed.true))
        | else-listed w ↦
            subst (λ i. Parts xs i (link + 1)) (sym w.at-is)
            (parts-after-miss xs c.loop-link.at link (c.loop-link.invariant.3 a) (sym c.lists_at-listed.ensures ∙ w.if-listed.false))
      ],
    )

pub returns-after-listed-clause-blank : goal.returns-after-listed-clause-blank
returns-after-listed-clause-blank g c =
    let k = g.F.Fabric.carrying c.args.fabric.now in
    let link = c.loop-link.link in
    let e : link ≡ c.args.m = omega arith in
    let on : c.unwrap-on.result ≡ carries k link = (subst (Looks k link) c.unwrap-on.ensures c.look.ensures).1 in
    let j = judged-more c.args.m [] k c.requires.size link (omega arith) (omega arith) _ _ false c.loop-link.invariant.0 on refl in
    sym (unlisted _ _) ∙ judged-all c.args.m [] k c.requires.size _ (subst (λ n. Judged c.args.m [] k (n + 1) (c.loop-link.found.blank && beq c.unwrap-on.result false)) e j)

pub returns-after-listed-clause-exact : goal.returns-after-listed-clause-exact
returns-after-listed-clause-exact g c =
    let k = g.F.Fabric.carrying c.args.fabric.now in
    let xs = c.args.list.now.links.now in
    let link = c.loop-link.link in
    let e : link ≡ c.args.m = omega arith in
    let on : c.unwrap-on.result ≡ carries k link = (subst (Looks k link) c.unwrap-on.ensures c.look.ensures).1 in
    let j = judged-more c.args.m xs k c.requires.size link (omega arith) (omega arith) _ _ _ c.loop-link.invariant.1 on c.lists_at-listed.ensures in
    judged-all c.args.m xs k c.requires.size _ (subst (λ n. Judged c.args.m xs k (n + 1) (c.loop-link.found.exact && beq c.unwrap-on.result c.lists_at-listed.result)) e j)
