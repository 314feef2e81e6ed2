use Rattle.std.proofs.Common.{◌≡◌, ℕ, ◌<◌, Bool, not, List, [], length, get_or, filter, sym, ap, ◌∙◌, arith}
use Rattle.std.proofs.lemmas.List.{take_all, length-map, get_or-map}
use Rattle.std.proofs.lemmas.Bool.{not_from_true, not_from_false, eq-eqb, ne_eqb}
use Rattle.block_records.specs.declared.Link.{Link}
use Rattle.block_records.specs.Words.{no_link, link_of, link_in, links_in}
use Rattle.thinning.specs.Marks.{flag}
use Rattle.thinning.proofs.Marking.{filtered-kept, under_at, noted_in, noted-out, noted-below}
use Rattle.thinning.proofs.marks.gather.Goals as goal
use Rattle.thinning.proofs.marks.gather.Goals.{then-marks-link-ne1, else-marks-link-ne1}

pub bounds-marks-link : goal.bounds-marks-link
bounds-marks-link c =
    let n = length-map c.args.links.now link_of in
    let a = ap (λ (e : Link). e.number) (get_or-map link_of c.args.links.now c.loop-i.i [] no_link (omega arith) ∙ sym c.from-link.ensures) in
    omega (arith, under_at _ (links_in c.args.links.now) c.requires.under c.loop-i.i no_link (omega arith))

pub loop-i-preserved : goal.loop-i-preserved
loop-i-preserved c =
    let ms : List ℕ = c.args.marks.now in
    let ws : List (List ℕ) = c.args.links.now in
    let os : List ℕ = c.loop-i.order in
    let i = c.loop-i.i in
    let k = c.loop-i.k in
    let lt : i < length ws = omega arith in
    let p : Link → Bool = λ e. not (flag ms e.number) in
    let v : get_or ms c.from-link.result.number 0 ≡ get_or ms (link_in ws i).number 0 = ap (λ (e : Link). get_or ms e.number 0) c.from-link.ensures in
    elim c.if-marks-link-ne1.branch [
      | then-marks-link-ne1 w ↦ rw (w.order-is, w.k-is) (
        omega arith,
        noted-below os k i (length ws) (omega arith) lt c.loop-i.invariant.1,
        noted_in p ws os k i lt (omega arith) (not_from_false _ (ne_eqb _ _ (λ e. w.if-marks-link-ne1.true (v ∙ e)))) c.loop-i.invariant.2,
      )
      | else-marks-link-ne1 w ↦ rw (w.order-is, w.k-is) (
        omega arith,
        c.loop-i.invariant.1,
        noted-out p ws os k i lt (not_from_true _ (eq-eqb _ _ (sym v ∙ w.if-marks-link-ne1.false))) c.loop-i.invariant.2,
      )
    ]

pub returns-clause-others : goal.returns-clause-others
returns-clause-others c =
    let n = length-map c.args.links.now link_of in
    c.loop-i.invariant.2 ∙ ap (filter (λ (e : Link). not (flag c.args.marks.now e.number))) (take_all c.loop-i.i (links_in c.args.links.now) (omega arith)) ∙ filtered-kept _ _
