use Rattle.std.proofs.Common.{◌≡◌, ℕ, ◌+◌, ◌-◌, ◌<◌, List, length, get_or, sym, ap, ◌∙◌, arith}
use Rattle.std.proofs.lemmas.List.{get_or-set_same, length-set}
use Rattle.graphs.specs.Thin.{roots}
use Rattle.thinning.proofs.Naming.{roots-none, renamed-none, roots-up, roots-level, renamed-top, renamed-up, renames-more}
use Rattle.thinning.proofs.contraction.number_classes.Goals as goal
use Rattle.thinning.proofs.contraction.number_classes.Goals.{then-up-x, else-up-x}

pub loop-x-init : goal.loop-x-init
loop-x-init c = (
  omega arith,
  λ ms h. (
    sym (roots-none ms),
    λ y l.
        let e : y ≡ 0 = omega arith in
        let g = get_or-set_same c.args.name.now 0 0 0 (omega (arith, c.requires.2, c.requires.0)) in
        rw e (g ∙ sym (renamed-none ms)),
  ),
)

pub loop-x-preserved : goal.loop-x-preserved
loop-x-preserved c =
    let ps : List ℕ = c.args.classes.now.parent.now in
    let x = c.loop-x.x in
    let s : x + 1 - 1 ≡ x = omega arith in
    let z : 0 < x = omega arith in
    let ln : x < length c.loop-x.name = omega (arith, c.loop-x.auto.name, length-set c.args.name.now 0 0, c.requires.2) in
    elim c.if-up-x.branch [
      | then-up-x w ↦ rw (w.name-is, w.count-is, s) (
        omega arith,
        λ ms h.
            let k = c.loop-x.invariant.1 ms h in
            let u = roots-up ms ps x h z (omega arith) w.if-up-x.true in
            let v : c.loop-x.count + 1 ≡ roots ms x = ap (λ n. n + 1) k.0 ∙ sym u in
            (v, renames-more ms c.loop-x.name x (c.loop-x.count + 1) ln k.1 (v ∙ sym (renamed-top ms ps x h (omega arith) w.if-up-x.true))),
      )
      | else-up-x w ↦ rw (w.name-is, w.count-is, s) (
        omega arith,
        λ ms h.
            let k = c.loop-x.invariant.1 ms h in
            let u = roots-level ms ps x h z (omega arith) w.if-up-x.false in
            let f = h.falls x (omega arith) in
            let low : get_or ps x 0 < x = omega (arith, w.if-up-x.false) in
            (k.0 ∙ sym u, renames-more ms c.loop-x.name x (get_or c.loop-x.name (get_or ps x 0) 0) ln k.1 (k.1 (get_or ps x 0) low ∙ sym (renamed-up ms ps x h (omega arith)))),
      )
    ]
