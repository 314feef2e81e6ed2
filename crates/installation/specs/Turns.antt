-- One call of a player, made by code that holds a plan, the seat and the fabric.
use Rattle.std.specs.Prelude.{◌≡◌, ℕ, Bool, false, List, Some}
use Rattle.weights.specs.declared.order.Side.{Side}
use Rattle.player.specs.Plan.{Sheet}
use Rattle.promise.specs.declared.answer.Answer.{Answer}
use Rattle.promise.specs.Installation.{DrawnPlan, Installation}
use Rattle.promise.specs.Calls.{One}
use Rattle.installation.specs.declared.call.Call.{Call}
use Rattle.installation.specs.declared.seat.Seat.{Seat}
use Rattle.installation.specs.Perform.{Lent, Desk, plan_at, asked, slot_after, Made, Seated}
use Rattle.installation.specs.Hands.{is_free}

-- The plan in a slot reads as s, and it is that of the player in this seat, if there is one; and the fabric is this.
pub record PlanHeld {W F : Type 0} (s : Sheet) (at : ℕ) (seat : Seat) (f : F) (x : Desk W F) : Type 0 where
  pub plan : DrawnPlan W
  pub there : plan_at x.plans at ≡ Some plan
  pub one : One plan x.installation.drawn
  pub sheet : plan.sheet ≡ s
  pub own : is_free seat ≡ false → at ≡ x.at
  pub fabric : x.installation.fabric ≡ f
  pub player : Seated seat (plan_at x.plans x.at) x.installation.player

-- What a player's call leaves of it: the book and the plans, and such a seat and fabric.
pub record Played {W F : Type 0} (x : Desk W F) (c : Call) (a : Answer) (seat : Seat) (f : F) (j : Installation W F) : Type 0 where
  pub book : j.book ≡ x.installation.book
  pub drawn : j.drawn ≡ x.installation.drawn
  pub fabric : j.fabric ≡ f
  pub player : Seated seat (plan_at x.plans (slot_after c a x.at)) j.player

abbrev pub Plays : {W F : Type 0} → (W → W → Side) → (F → List Bool) → Sheet → ℕ → Call → Answer → Seat → F → Seat → F → Type 0
Plays {W} {F} side carrying s at c a seat f seat' f' = (l : Lent W) (x : Desk W F) → PlanHeld s at seat f x
    → (j : Installation W F) × Made side carrying (asked l x c) x.installation a j × Played x c a seat' f' j
