-- When a chain of grounds gives no fault.
use Rattle.std.proofs.Common.{◌≡◌, Bool, true, false, cond, Some, None, Ok, Option, refl}
use Rattle.network.specs.Ends.{unless}

pub none-some : {X : Type 0} (o : Option X) (x : X) → o ≡ None → o ≡ Some x → ⊥
none-some o x e f = cc

pub cond-none : {X : Type 0} (b : Bool) (f : X) (o : Option X) → cond b (Some f) o ≡ None → (b ≡ false) × (o ≡ None)
cond-none true f o e = cc
cond-none false f o e = (refl, e)

-- Where a call that only refuses has passed, there is no ground.
pub passed : {X E : Type 0} (o : Option E) (x y : X) → Ok x ≡ unless o y → o ≡ None
passed None x y e = refl
passed (Some f) x y e = cc

pub passed-if : {X E : Type 0} (b : Bool) (f : E) (x y : X) → Ok x ≡ unless (cond b (Some f) None) y → b ≡ false
passed-if true f x y e = cc
passed-if false f x y e = refl
