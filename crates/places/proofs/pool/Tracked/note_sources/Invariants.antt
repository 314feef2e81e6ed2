use Rattle.std.proofs.Common.{◌≡◌, ℕ, ◌<◌, get_or}
use Rattle.places.specs.Pool.{source_of}
use Rattle.places.proofs.pool.Tracked.note_sources.Given as goal

abbrev pub invariant-loop-i : goal.invariant-loop-i
invariant-loop-i l = (x : ℕ) → x < l.i → get_or l.sources x 0 ≡ source_of (get_or l.self.held.now x 0) (get_or l.self.present.now x 0)
