use Rattle.std.proofs.Common.{sym, ◌∙◌, arith}
use Rattle.text_words.proofs.Values.{value-digit, value-other, value-end, value-large}
use Rattle.text_words.proofs.number.digits.Goals as goal

pub returns-in_err-digit : goal.returns-in_err-digit
returns-in_err-digit c =
    c.from_residual.ensures ∙ sym (value-other _ _ _ _ c.loop-b-test.true c.from.ensures c.in_err-digit.ensures.cases) ∙ c.loop-b.invariant.1

pub returns-in_err-checked_mul : goal.returns-in_err-checked_mul
returns-in_err-checked_mul c =
    let digit = value-digit _ _ _ _ c.loop-b-test.true c.from.ensures _ c.in_ok-digit.ensures.value in
    c.from_residual-in_err-checked_mul.ensures ∙ sym (value-large _ _ (omega arith)) ∙ sym digit ∙ c.loop-b.invariant.1

pub returns-in_err-value : goal.returns-in_err-value
returns-in_err-value c =
    let digit = value-digit _ _ _ _ c.loop-b-test.true c.from.ensures _ c.in_ok-digit.ensures.value in
    c.from_residual-in_err-value.ensures ∙ sym (value-large _ _ (omega arith)) ∙ sym digit ∙ c.loop-b.invariant.1

pub loop-b-preserved : goal.loop-b-preserved
loop-b-preserved c =
    let digit = value-digit _ _ _ _ c.loop-b-test.true c.from.ensures _ c.in_ok-digit.ensures.value in
    (omega (arith, c.in_ok-value.ensures), rw (c.in_ok-value.ensures.1, c.in_ok-checked_mul.ensures.1) (sym digit ∙ c.loop-b.invariant.1))

pub returns : goal.returns
returns c = sym (value-end _ _ _ c.loop-b-test.false c.loop-b.invariant.0) ∙ c.loop-b.invariant.1
