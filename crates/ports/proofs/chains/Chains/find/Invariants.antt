use Rattle.std.proofs.Common.{◌≡◌, ◌+◌, ◌-◌, ◌<◌}
use Rattle.port_layout.specs.Chains.{found}
use Rattle.port_layout.specs.Words.{word}
use Rattle.ports.proofs.chains.Chains.find.Given as goal

abbrev pub invariant-loop-step : goal.invariant-loop-step
invariant-loop-step l =
    (l.at < l.self.heads + l.self.records)
    × (found l.self.heads (word l.bytes) (l.self.records - l._step) l.at l.r ≡ found l.self.heads (word l.bytes) l.self.records l.head l.r)
