use Rattle.std.proofs.Common.{◌∙◌, arith, true-eqb, false-eqb}
use Rattle.plant_tables.specs.File.{seen}
use Rattle.plant_text.proofs.Bodies.{body-line, body-place, body_more, body_end, body_open}
use Rattle.std.proofs.lemmas.Result.{err_from_is_err_and}
use Rattle.plant_text.proofs.reader.read_body.Goals as goal

pub read_line-requires : goal.read_line-requires
read_line-requires g c = omega (arith, c.in-Some.ensures.sizes)

pub returns-in_err-item-clause-told : goal.returns-in_err-item-clause-told
returns-in_err-item-clause-told g c =
    let p = err_from_is_err_and c.from_residual.result c.from_residual.ensures.1 in
    rw (p.1, p.2)
    (body-line g.W.Weight.made (seen c.loop-row.tables) c.loop-row.line _ _ _ c.in-Some.ensures _ c.in_err-item.ensures.told ∙ c.loop-row.invariant.left)

pub returns-in_err-place-clause-told : goal.returns-in_err-place-clause-told
returns-in_err-place-clause-told g c =
    let p = err_from_is_err_and c.from_residual-in_err-place.result c.from_residual-in_err-place.ensures.1 in
    rw (p.1, p.2)
    (body-place g.W.Weight.made (seen c.loop-row.tables) c.loop-row.line _ _ _ c.in-Some.ensures _ _ c.in_ok-item.ensures.told c.in_err-place.ensures.told ∙ c.loop-row.invariant.left)

pub loop-row-preserved : goal.loop-row-preserved
loop-row-preserved g c = record {
  few = omega (arith, c.in-Some.ensures.sizes);
  short = omega (arith, c.in-Some.ensures.sizes);
  left = body_more g.W.Weight.made (seen c.loop-row.tables) c.loop-row.line _ _ _ c.in-Some.ensures _ _ c.in_ok-item.ensures.told c.in_ok-place.ensures.told ∙ c.loop-row.invariant.left;
  room = omega (arith, c.read_line.ensures.room);
  roomy = c.in_ok-place.ensures.room;
}

pub returns-then-is_empty-clause-told : goal.returns-then-is_empty-clause-told
returns-then-is_empty-clause-told g c =
    body_end g.W.Weight.made (seen c.loop-row.tables) c.loop-row.line c.loop-row.rest.now c.in_default.ensures (true-eqb _ 0 c.if-is_empty.ensures) ∙ c.loop-row.invariant.left

pub returns-else-is_empty-clause-told : goal.returns-else-is_empty-clause-told
returns-else-is_empty-clause-told g c =
    body_open g.W.Weight.made (seen c.loop-row.tables) c.loop-row.line c.loop-row.rest.now c.in_default.ensures (omega (arith, false-eqb _ 0 c.if-is_empty.ensures)) ∙ c.loop-row.invariant.left
