-- Each call of the player, as code makes it, is a step of the installation that it holds.
use Rattle.std.proofs.Common.{◌≡◌, ℕ, ◌+◌, ◌-◌, Bool, true, List, Some, None, Ok, Err, Option, Result, sym, refl, ap, subst}
use Rattle.std.specs.Prelude.{MatchResult}
use Rattle.faults.specs.declared.PlayerFault.{PlayerFault}
use Rattle.weights.specs.declared.order.Side.{Side}
use Rattle.player.specs.declared.states.Steady.{Steady}
use Rattle.player.specs.declared.states.Between.{Between}
use Rattle.player.specs.declared.states.Kept.{Kept}
use Rattle.player.specs.Plan.{Sheet}
use Rattle.player.specs.States.{rest, way}
use Rattle.player.specs.Lay.{Lays}
use Rattle.player.specs.Moves.{Forwards, Backwards, Joins, Cancels}
use Rattle.promise.specs.declared.answer.Answer.{Answer}
use Rattle.promise.specs.declared.answer.Answer.TheVariants.{NotMade, Granted, Refused, Abandoned, Finished}
use Rattle.promise.specs.Installation.{DrawnPlan, Player, nobody, steady, between, Installation}
use Rattle.promise.specs.Calls.{Request, laying, laid, played, departed, arrived_at, told, Step, lay-granted, lay-refused, forwards, backwards, joins, cancels, abandons, finishes}
use Rattle.installation.specs.declared.call.Call.{Call}
use Rattle.installation.specs.declared.call.Call.TheVariants as call
use Rattle.installation.specs.declared.seat.Seat.{Seat}
use Rattle.installation.specs.declared.seat.Seat.TheVariants.{Free, Still, Moving}
use Rattle.installation.specs.Perform.{Desk, plan_at, lay_it, by_player, slot_after, Made, Seated}
use Rattle.installation.specs.Hands.{place_of, to_player}
use Rattle.installation.specs.Turns.{PlanHeld, Played, Plays}

-- The seat and the answer after a call that leaves a next state, or hands the last one back.
abbrev pub Moved : {N L : Type 0} → (N → Seat) → (L → Seat) → Result N (Kept L) → Seat → Answer → Type 0
Moved next last r seat a = MatchResult r (λ n. (seat ≡ next n) × (a ≡ Granted)) (λ k. (seat ≡ last k.player) × (a ≡ Refused k.fault))

abbrev pub seat_of : {N L : Type 0} → (N → Seat) → (L → Seat) → Result N (Kept L) → Seat
seat_of next last (Ok n) = next n
seat_of next last (Err k) = last k.player

moved : {N L : Type 0} (next : N → Seat) (last : L → Seat) (r : Result N (Kept L)) {seat : Seat} {a : Answer} → Moved next last r seat a
    → (seat ≡ seat_of next last r) × (a ≡ told r)
moved next last (Ok n) m = m
moved next last (Err k) m = m

module _ {W F : Type 0} (side : W → W → Side) (carrying : F → List Bool) where
  -- A request that the player's state allows is made.
  module _ (i : Installation W F) {j : Installation W F} {a : Answer} {q : Request W} where
    made-nobody : i.player ≡ nobody → Step side carrying i q a j → Made side carrying (by_player i.player (Some q) None None) i a j
    made-nobody e x = subst (λ (p : Player W). Made side carrying (by_player p (Some q) None None) i a j) (sym e) x

    made-steady : {p : Steady} {t : ℕ} {d : DrawnPlan W} → i.player ≡ steady p t d → Step side carrying i q a j
        → Made side carrying (by_player i.player None (Some q) None) i a j
    made-steady e x = subst (λ (p : Player W). Made side carrying (by_player p None (Some q) None) i a j) (sym e) x

    made-between : {b : Between} {t u : ℕ} {d : DrawnPlan W} → i.player ≡ between b t u d → Step side carrying i q a j
        → Made side carrying (by_player i.player None None (Some q)) i a j
    made-between e x = subst (λ (p : Player W). Made side carrying (by_player p None None (Some q)) i a j) (sym e) x

  -- Any other is not.
  module _ (i : Installation W F) (o q : Option (Request W)) where
    pub nobody-waits : i.player ≡ nobody → Made side carrying (by_player i.player None o q) i NotMade i
    nobody-waits e = rw e (refl, refl)

    steady-waits : {p : Steady} {t : ℕ} {d : DrawnPlan W} → i.player ≡ steady p t d → Made side carrying (by_player i.player o None q) i NotMade i
    steady-waits e = rw e (refl, refl)

    between-waits : {b : Between} {t u : ℕ} {d : DrawnPlan W} → i.player ≡ between b t u d → Made side carrying (by_player i.player o q None) i NotMade i
    between-waits e = rw e (refl, refl)

  module _ (s : Sheet) where
    -- The same of equal seats and answers.
    plays-as : {y y' : Seat} {a a' : Answer} (at : ℕ) (c : Call) (x : Seat) (f f' : F) → (y ≡ y') × (a ≡ a')
        → Plays side carrying s at c a' x f y' f' → Plays side carrying s at c a x f y f'
    plays-as at c x f f' e h = rw (e.0, e.1) h

    -- A player's call, with the plan of the slot that it needs.
    abbrev pub Placed : Call → Answer → Seat → F → Seat → F → Type 0
    Placed c a x f y f' = to_player c ≡ true → (slot : ℕ) → Plays side carrying s (place_of c x slot) c a x f y f'

    pub placed : {c c' : Call} {x x' : Seat} {y y' : Seat} {a a' : Answer} {f f' : F} → c ≡ c' → x ≡ x' → (y ≡ y') × (a ≡ a')
        → Placed c' a' x' f y' f' → Placed c a x f y f'
    placed p q e h = rw (p, q, e.0, e.1) h

    -- The call is not made.
    unchanged : {x : Desk W F} {at : ℕ} {seat : Seat} {c : Call} (f : F) → slot_after c NotMade x.at ≡ x.at → PlanHeld s at seat f x
        → Played x c NotMade seat f x.installation
    unchanged {x} {at} {seat} f e h = record {
      book = refl;
      drawn = refl;
      fabric = h.fabric;
      player = rw e h.player;
    }

    module _ (f : F) where
      -- A free seat allows lay alone, a steady player forward, backward and finish, one between join, cancel and abandon.
      pub free-waits : (c : Call) → ((to : ℕ) → c ≡ call.Lay to → ⊥) → Placed c NotMade Free f Free f
      free-waits call.Open other t = absurd (cc)
      free-waits (call.Draw b) other t = absurd (cc)
      free-waits (call.Lay to) other t = absurd (other to refl)
      free-waits _ other t = λ at l x h. (x.installation, nobody-waits x.installation _ _ h.player, unchanged f refl h)

      pub still-waits : (p : Steady) (c : Call) → (c ≡ call.Forward → ⊥) → (c ≡ call.Backward → ⊥) → (c ≡ call.Finish → ⊥)
          → Placed c NotMade (Still p) f (Still p) f
      still-waits p call.Open n m o t = absurd (cc)
      still-waits p (call.Draw b) n m o t = absurd (cc)
      still-waits p call.Forward n m o t = absurd (n refl)
      still-waits p call.Backward n m o t = absurd (m refl)
      still-waits p call.Finish n m o t = absurd (o refl)
      still-waits p _ n m o t = λ at l x h. (x.installation, steady-waits x.installation _ _ h.player.3, unchanged f refl h)

      pub moving-waits : (b : Between) (c : Call) → (c ≡ call.Join → ⊥) → (c ≡ call.Cancel → ⊥) → (c ≡ call.Abandon → ⊥)
          → Placed c NotMade (Moving b) f (Moving b) f
      moving-waits b call.Open n m o t = absurd (cc)
      moving-waits b (call.Draw d) n m o t = absurd (cc)
      moving-waits b call.Join n m o t = absurd (n refl)
      moving-waits b call.Cancel n m o t = absurd (m refl)
      moving-waits b call.Abandon n m o t = absurd (o refl)
      moving-waits b _ n m o t = λ at l x h. (x.installation, between-waits x.installation _ _ h.player.4, unchanged f refl h)

    module _ (at : ℕ) (f : F) where
      -- The call ends the player.
      pub abandoned : (b : Between) → Plays side carrying s at call.Abandon (Abandoned b.leaving b.coming) (Moving b) f Free f
      abandoned b l x h =
          let i = x.installation in
          let e = h.player.4 in (
            played i i.fabric nobody,
            made-between i e (abandons b h.player.0 h.player.1 h.player.2 e),
            record { book = refl; drawn = refl; fabric = h.fabric; player = refl },
          )

      pub finished : (p : Steady) → Plays side carrying s at call.Finish (Finished p.t) (Still p) f Free f
      finished p l x h =
          let i = x.installation in
          let e = h.player.3 in (
            played i i.fabric nobody,
            made-steady i e (finishes p h.player.0 h.player.1 e),
            record { book = refl; drawn = refl; fabric = h.fabric; player = refl },
          )

    module _ (at : ℕ) (f g : F) where
      to-lay : {x : Desk W F} {j : Installation W F} {a : Answer} (h : PlanHeld s at Free f x)
          → Step side carrying x.installation (laying h.plan.sheet) a j
          → Made side carrying (by_player x.installation.player (lay_it (plan_at x.plans at)) None None) x.installation a j
      to-lay {x} {j} {a} h y = rw h.there (made-nobody x.installation h.player y)

      -- The call is granted or refused.
      pub laid-plan : (p : Steady) → Lays s (carrying f) (Ok p) (carrying g) → Plays side carrying s at (call.Lay at) Granted Free f (Still p) g
      laid-plan p y l x h = (
        laid x.installation g (steady p 0 h.plan),
        to-lay h (lay-granted h.plan p g h.one h.player
            (rw (h.sheet, h.fabric) y)),
        record { book = refl; drawn = refl; fabric = refl; player = (0, h.plan, h.there, refl) },
      )

      pub lay-fails : (e : PlayerFault) → Lays s (carrying f) (Err e) (carrying g) → Plays side carrying s at (call.Lay at) (Refused e) Free f Free g
      lay-fails e y l x h = (
        played x.installation g x.installation.player,
        to-lay h (lay-refused h.plan.sheet e g
            (rw (h.sheet, h.fabric) y)),
        record { book = refl; drawn = refl; fabric = refl; player = h.player },
      )

      -- The plan of a seated player is the one at hand.
      own-plan : {x : Desk W F} {seat : Seat} (h : PlanHeld s at seat f x) → at ≡ x.at → (d : DrawnPlan W) → plan_at x.plans x.at ≡ Some d → s ≡ d.sheet
      own-plan {x} h e d q = let a = h.there in let b = ap (plan_at x.plans) e in let c = h.sheet in cc

      gone : (t u : ℕ) (d : DrawnPlan W) (o : Option (DrawnPlan W)) (r : Result Between (Kept Steady)) → o ≡ Some d → Seated (seat_of Moving Still r) o (departed t u d r)
      gone t u d o (Ok b) e = (t, u, d, e, refl)
      gone t u d o (Err k) e = (t, d, e, refl)

      come : (t u v : ℕ) (d : DrawnPlan W) (o : Option (DrawnPlan W)) (r : Result Steady (Kept Between)) → o ≡ Some d → Seated (seat_of Still Moving r) o (arrived_at t u v d r)
      come t u v d o (Ok p) e = (v, d, e, refl)
      come t u v d o (Err k) e = (t, u, d, e, refl)

      pub forwarded : (p : Steady) (r : Result Between (Kept Steady)) → Forwards (rest p) s (carrying f) r (carrying g)
          → {seat : Seat} {a : Answer} → Moved Moving Still r seat a → Plays side carrying s at call.Forward a (Still p) f seat g
      forwarded p r y m = plays-as at call.Forward (Still p) f g (moved Moving Still r m) (λ l x h.
          let i = x.installation in
          let t = h.player.0 in
          let d = h.player.1 in
          let e = h.player.3 in (
            played i g (departed t (t + 1) d r),
            made-steady i e (forwards p t d r g e
                (subst (λ (z : Sheet). Forwards (rest p) z (carrying i.fabric) r (carrying g)) (own-plan h (h.own refl) d h.player.2)
                (rw h.fabric y))),
            record { book = refl; drawn = refl; fabric = refl; player = gone t (t + 1) d (plan_at x.plans x.at) r h.player.2 },
          ))

      pub backwarded : (p : Steady) (r : Result Between (Kept Steady)) → Backwards (rest p) s (carrying f) r (carrying g)
          → {seat : Seat} {a : Answer} → Moved Moving Still r seat a → Plays side carrying s at call.Backward a (Still p) f seat g
      backwarded p r y m = plays-as at call.Backward (Still p) f g (moved Moving Still r m) (λ l x h.
          let i = x.installation in
          let t = h.player.0 in
          let d = h.player.1 in
          let e = h.player.3 in (
            played i g (departed t (t - 1) d r),
            made-steady i e (backwards p t d r g e
                (subst (λ (z : Sheet). Backwards (rest p) z (carrying i.fabric) r (carrying g)) (own-plan h (h.own refl) d h.player.2)
                (rw h.fabric y))),
            record { book = refl; drawn = refl; fabric = refl; player = gone t (t - 1) d (plan_at x.plans x.at) r h.player.2 },
          ))

      pub joined : (b : Between) (r : Result Steady (Kept Between)) → Joins (way b) (carrying f) r (carrying g)
          → {seat : Seat} {a : Answer} → Moved Still Moving r seat a → Plays side carrying s at call.Join a (Moving b) f seat g
      joined b r y m = plays-as at call.Join (Moving b) f g (moved Still Moving r m) (λ l x h.
          let i = x.installation in
          let t = h.player.0 in
          let u = h.player.1 in
          let d = h.player.2 in
          let e = h.player.4 in (
            played i g (arrived_at t u u d r),
            made-between i e (joins b t u d r g e (rw h.fabric y)),
            record { book = refl; drawn = refl; fabric = refl; player = come t u u d (plan_at x.plans x.at) r h.player.3 },
          ))

      pub cancelled : (b : Between) (r : Result Steady (Kept Between)) → Cancels (way b) (carrying f) r (carrying g)
          → {seat : Seat} {a : Answer} → Moved Still Moving r seat a → Plays side carrying s at call.Cancel a (Moving b) f seat g
      cancelled b r y m = plays-as at call.Cancel (Moving b) f g (moved Still Moving r m) (λ l x h.
          let i = x.installation in
          let t = h.player.0 in
          let u = h.player.1 in
          let d = h.player.2 in
          let e = h.player.4 in (
            played i g (arrived_at t u t d r),
            made-between i e (cancels b t u d r g e (rw h.fabric y)),
            record { book = refl; drawn = refl; fabric = refl; player = come t u t d (plan_at x.plans x.at) r h.player.3 },
          ))
