use Rattle.std.proofs.Common.{◌≡◌, ◌+◌, drop}
use Rattle.network.specs.Ends.{first_end_fault}
use Rattle.network.proofs.ends.check_ends.Given as goal

abbrev pub invariant-loop-i : goal.invariant-loop-i
invariant-loop-i l = first_end_fault l.n (l.i + 1) (drop l.i l.ends) ≡ first_end_fault l.n 1 l.ends
