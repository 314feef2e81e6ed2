use Rattle.std.proofs.Common.{◌≡◌, ◌<◌, eqb, length, get_or, ◌∙◌, arith, rules}
use Rattle.std.proofs.lemmas.Iterator.Consumers.{YieldsList-turn, YieldsList-end}
use Rattle.std.proofs.lemmas.Iterator.Splits.{YieldsList-from_slice_split}
use Rattle.std.proofs.lemmas.List.{length_push}
use Rattle.text_words.specs.Split.{parts}
use Rattle.plant_lines.proofs.Lines.{words-err, words_more, words-all}
use Rattle.std.proofs.lemmas.Result.{err_from_is_err_and}
use Rattle.plant_lines.proofs.line.read_numbers.Goals as goal
use Rattle.plant_lines.proofs.line.read_numbers.Goals.{In-Some}

-- the word of this turn
turn : (c : In-Some) → (length c.loop-word.yielded < length (parts 32 c.args.text.now)) × (c.in-Some.word.now ≡ get_or (parts 32 c.args.text.now) (length c.loop-word.yielded) c.in-Some.word.now)
turn c =
    YieldsList-turn (YieldsList-from_slice_split _ (λ b. eqb b 32) c.args.text.now (cc) (cc) (cc) (λ x b q k. search rules)) c.loop-word.yielded _ c.loop-word.yielded_by _ _ c.in-Some.word c.in-Some.is c.next.ensures.steps

pub returns-in_err-number-clause-told : goal.returns-in_err-number-clause-told
returns-in_err-number-clause-told c =
    let p = err_from_is_err_and c.from_residual.result c.from_residual.ensures.1 in
    rw (p.1, p.2) (words-err _ _ _ c.loop-word.invariant.read _ (turn (goal.at.returns-in_err-number-clause-told c).In-Some) _ _ c.in_err-number.ensures)

pub loop-word-preserved : goal.loop-word-preserved
loop-word-preserved c =
    let n = length_push c.loop-word.yielded c.in-Some.word in
    record {
      read = words_more _ _ _ c.loop-word.invariant.read _ (turn (goal.at.loop-word-preserved c).In-Some) _ _ _ _ c.in_ok-number.ensures c.push_reserved.ensures.items n;
      count = omega (arith, c.push_reserved.ensures.len);
      room = c.push_reserved.ensures.capacity ∙ c.loop-word.invariant.room;
    }

pub returns-clause-told : goal.returns-clause-told
returns-clause-told c =
    let t = YieldsList-end (YieldsList-from_slice_split _ (λ b. eqb b 32) c.args.text.now (cc) (cc) (cc) (λ x b q k. search rules)) c.loop-word.yielded _ c.loop-word.yielded_by _ _ c.in-None.is c.next.ensures.steps in
    words-all _ _ _ c.loop-word.invariant.read _ (omega arith)
