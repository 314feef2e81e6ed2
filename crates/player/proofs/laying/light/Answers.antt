use Rattle.std.proofs.Common.{◌≡◌, get_or, take, None, ap, ◌∙◌}
use Rattle.fabrics.specs.Meaning.{enable_fault}
use Rattle.player.proofs.Grants.{enabled}
use Rattle.player.proofs.Only.{only-enable, lit-more}
use Rattle.player.proofs.Walks.{sound_at}
use Rattle.player.proofs.laying.light.Goals as goal

pub unwrap-requires : goal.unwrap-requires
unwrap-requires g c =
    let xs = c.args.start.now in
    let i = c.loop-link.link-index in
    let s = sound_at c.args.m xs i c.loop-link-test.true c.loop-link.invariant.sound in
    let x = get_or xs i 0 in
    let e : enable_fault (g.F.Fabric.carrying c.loop-link.fabric) x ≡ None =
    ap (λ t. enable_fault t x) c.loop-link.invariant.carrying ∙ only-enable c.args.m (take i xs) x s.some s.within s.first in
    enabled _ x c.enable.result _ e c.enable.ensures.answer

pub loop-link-preserved : goal.loop-link-preserved
loop-link-preserved g c =
    let xs = c.args.start.now in
    let i = c.loop-link.link-index in
    let s = sound_at c.args.m xs i c.loop-link-test.true c.loop-link.invariant.sound in
    record {
      carrying =
          lit-more c.args.m xs i (g.F.Fabric.carrying c.loop-link.fabric) _ c.loop-link-test.true s c.loop-link.invariant.carrying
          (rw c.unwrap.ensures at c.enable.ensures.answer).1;
      sound = s.next;
      same = c.enable.ensures.same ∙ c.loop-link.invariant.same;
    }
