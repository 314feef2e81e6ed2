-- The refusal of a call that only refuses.
use Rattle.std.proofs.Common.{◌≡◌, Some, None, Option, Result, refl, ap, ◌∙◌}
use Rattle.std.specs.Result.{result_err}
use Rattle.network.specs.Ends.{unless}

err-unless : {X E : Type 0} (o : Option E) (x : X) → result_err (unless o x) ≡ o
err-unless None x = refl
err-unless (Some e) x = refl

pub refusal-is : {X E : Type 0} (r : Result X E) (o : Option E) (x : X) → r ≡ unless o x → result_err r ≡ o
refusal-is r o x e = ap result_err e ∙ err-unless o x
