use Rattle.std.proofs.Common.{◌≡◌, true, false, [], length, None, sym, ap, ◌∙◌}
use Rattle.std.proofs.lemmas.Bool.{not-false}
use Rattle.player.specs.Plan.{sheet, starts, unfit}
use Rattle.player.specs.Start.{list_fault}
use Rattle.player.specs.Lay.{agree, only}
use Rattle.player.proofs.Nones.{passed, passed-if}
use Rattle.player.proofs.Only.{agree-is, lay-blank, lay-exact}
use Rattle.player.proofs.laying.lay.Goals as goal
use Rattle.player.proofs.laying.lay.Goals.{then-found, else-found+else-not-found}

pub light-requires-clause-blank : goal.light-requires-clause-blank
light-requires-clause-blank g c = agree-is _ _ (sym c.survey-found.ensures.blank ∙ c.if-found.true)

pub returns-clause-answer : goal.returns-clause-answer
returns-clause-answer g c =
    let s = sheet c.args.plan.now in
    let k = g.F.Fabric.carrying c.args.fabric.now in
    let size : length k ≡ s.m = sym c.size.ensures ∙ c.if-size-plan.false in
    let fit : unfit s ≡ false = passed-if _ _ _ _ c.in_ok-check.ensures in
    let list : c.new-start.result.links.now ≡ starts s = c.new-start.ensures in
    let sound : list_fault s.m [] (starts s) ≡ None = rw list at (passed _ _ _ c.in_ok-check-2.ensures) in
    let blank : c.survey-found.result.blank ≡ agree k (only s.m []) = c.survey-found.ensures.blank in
    let exact : c.survey-found.result.exact ≡ agree k (only s.m (starts s)) = rw list at c.survey-found.ensures.exact in
    elim c.if-found.branch [
      | then-found w ↦ (
        lay-blank s k size fit sound (sym blank ∙ w.if-found.true),
        (cc),
        ap g.F.Fabric.carrying w.fabric-is ∙ (rw list at w.light.ensures.carrying),
      )
      | else-found+else-not-found w ↦
          let same : agree k (only s.m (starts s)) ≡ true = sym exact ∙ not-false _ w.if-not-found.false in (
            lay-exact s k size fit sound (sym blank ∙ w.if-found.false) same,
            (cc),
            ap g.F.Fabric.carrying w.fabric-is ∙ agree-is _ _ same,
          )
    ]
