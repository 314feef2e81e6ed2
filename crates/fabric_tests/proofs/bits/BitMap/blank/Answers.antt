use Rattle.std.proofs.Common.{◌≡◌, ◌++◌, length, drop, replicate, None, ap, ◌∙◌, arith, rules}
use Rattle.fabrics.specs.Blank.{blanked}
use Rattle.fabrics.proofs.Blanks.{granted}
use Rattle.fabric_tests.specs.Bits.{words_for, bits_fault}
use Rattle.fabric_tests.proofs.Turns.{begins-blank}
use Rattle.fabric_tests.proofs.bits.BitMap.blank.Goals as goal

pub returns-clause-outcome : goal.returns-clause-outcome
returns-clause-outcome c =
    let m = c.args.m in
    let ws = c.args.words.now in
    let k = c.div_ceil.result in
    let none : bits_fault m (length ws) ≡ None = granted _ tt c.in_default.ensures in
    let needed : k ≡ words_for m = omega arith in
    let zeros : c.fill.new.self ≡ replicate k 0 = search rules in
    begins-blank m ws none _ (ap (λ l. l ++ drop k ws) zeros ∙ ap (λ j. blanked j ws) needed)
