-- What it tells that there is no refusal.
use Rattle.std.proofs.Common.{◌≡◌, ℕ, Bool, true, false, cond, Some, None, Option, refl, arith}
use Rattle.std.specs.Option.{option_map}
use Rattle.network.specs.Ends.{or_else}

some-none : {X : Type 0} {Y : Type 0} (x : X) → Some x ≡ None → Y
some-none x e = absurd (let z : ◌≡◌ {A = ℕ} 0 1 = cc in omega arith)

pub cond-none : {X : Type 0} (b : Bool) (x : X) (o : Option X) → cond b (Some x) o ≡ None → (b ≡ false) × (o ≡ None)
cond-none true x o e = some-none x e
cond-none false x o e = (refl, e)

pub or_else-none : {X : Type 0} (o p : Option X) → or_else o p ≡ None → (o ≡ None) × (p ≡ None)
or_else-none None p e = (refl, e)
or_else-none (Some x) p e = some-none x e

pub mapped-none : {X Y : Type 0} (f : X → Y) (o : Option X) → option_map f o ≡ None → o ≡ None
mapped-none f None e = refl
mapped-none f (Some x) e = some-none (f x) e
