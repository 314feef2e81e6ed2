use Rattle.fabrics.specs.Map.{flags}
use Rattle.fabrics.proofs.Calls.{turns}
use Rattle.fabrics.proofs.Flags.{length-flags, flag_at, flags-turned}
use Rattle.fabrics.proofs.map.LinkMap.turn.Goals as goal

pub returns-clause-answer : goal.returns-clause-answer
returns-clause-answer c =
    let s = c.args.self.now in
    let p = c.in_ok-i.ensures in
    turns (flags s.m s.bytes.now) s.m c.args.link (length-flags s.m s.bytes.now s.fits) c.in_ok-i.i p c.args.on _
    (flag_at s.m s.bytes.now s.fits c.in_ok-i.i p.2) tt c.in_ok-check_turn.ensures _
    (flags-turned s.m s.bytes.now s.fits c.in_ok-i.i p.2 c.args.on c.from.result c.from.ensures)
