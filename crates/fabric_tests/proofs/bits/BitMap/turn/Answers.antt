use Rattle.std.proofs.Common.{◌≡◌, ◌*◌, ◌<◌, not, length, sym, ◌∙◌, arith, rules}
use Rattle.fabrics.proofs.Calls.{turns, differs}
use Rattle.fabric_tests.specs.Bits.{flag, flags}
use Rattle.fabric_tests.proofs.Turns.{length_flags, flag_at, turned-flags-by}
use Rattle.fabric_tests.proofs.bits.BitMap.turn.Goals as goal

pub returns-clause-answer : goal.returns-clause-answer
returns-clause-answer c =
    let s = c.args.self.now in
    let i = c.in_ok-i.i in
    let p = c.in_ok-i.ensures in
    let room : i < 32 * length s.words.now = omega (arith, p.2, s.fits) in
    let was : flag s.words.now i ≡ not c.args.on = sym (flag_at s.m s.words.now i p.2) ∙ sym c.is_on.ensures ∙ differs c.args.link c.args.on c.is_on.result tt c.in_ok-check_turn.ensures in
    turns (flags s.m s.words.now) s.m c.args.link (length_flags s.m s.words.now) i p c.args.on c.is_on.result (sym c.is_on.ensures) tt c.in_ok-check_turn.ensures _
    (turned-flags-by s.words.now i room s.m p.2 c.args.on was _ (search rules))
