-- What is printed for a call.
use Rattle.std.specs.Prelude.{ℕ, List, codes}
use Rattle.installation.specs.declared.call.Call.{Call}
use Rattle.installation.specs.declared.call.Call.TheVariants as call

abbrev pub name : Call → List ℕ
name call.Open = codes "open"
name (call.Draw b) = codes "draw"
name (call.Lay s) = codes "lay"
name call.Forward = codes "forward"
name call.Backward = codes "backward"
name call.Join = codes "join"
name call.Cancel = codes "cancel"
name call.Abandon = codes "abandon"
name call.Finish = codes "finish"
