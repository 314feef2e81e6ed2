-- The nine calls on an installation, as steps from one installation to the next: each is granted or refused just as the call's own
-- contract says.
use Rattle.std.specs.Prelude.{◌≡◌, ℕ, ◌+◌, ◌-◌, Bool, true, List, ◌∷◌, length, Some, None, Ok, Err, Result}
use Rattle.faults.specs.declared.OpenFault.{OpenFault}
use Rattle.faults.specs.declared.DrawFault.{DrawFault}
use Rattle.faults.specs.declared.PlayerFault.{PlayerFault}
use Rattle.weights.specs.declared.order.Side.{Side}
use Rattle.network.specs.declared.types.Change.{Change}
use Rattle.planner.specs.Open.{open_fault}
use Rattle.planner.specs.Draw.{draw_fault, counts}
use Rattle.player.specs.declared.states.Steady.{Steady}
use Rattle.player.specs.declared.states.Between.{Between}
use Rattle.player.specs.declared.states.Kept.{Kept}
use Rattle.player.specs.Plan.{Sheet}
use Rattle.player.specs.States.{rest, way}
use Rattle.player.specs.Lay.{Lays}
use Rattle.player.specs.Moves.{Forwards, Backwards, Joins, Cancels}
use Rattle.promise.specs.declared.answer.Answer.{Answer}
use Rattle.promise.specs.declared.answer.Answer.TheVariants.{Opened, NotOpened, Drew, NotDrawn, Granted, Refused, Abandoned, Finished}
use Rattle.promise.specs.Installation.{Network, after, DrawnPlan, drawn_from, Player, nobody, steady, between, Installation, new}

-- What is asked: to open a network with a tree table of t numbers and a work area of w words; to draw a batch with a start list,
-- an entry table and a work area of w words; to lay a plan; and the calls of a player.
pub data Request (W : Type 0) : Type 0 where
  opening : Network W → (t w : ℕ) → Request W
  drawing : List (Change W) → List ℕ → List (ℕ × ℕ) → (w : ℕ) → Request W
  laying : Sheet → Request W
  forward : Request W
  backward : Request W
  join : Request W
  cancel : Request W
  abandon : Request W
  finish : Request W

-- That a drawn plan is one of some.
pub data One {W : Type 0} (d : DrawnPlan W) : List (DrawnPlan W) → Type 0 where
  this : {ds : List (DrawnPlan W)} → One d (d ∷ ds)
  older : {e : DrawnPlan W} {ds : List (DrawnPlan W)} → One d ds → One d (e ∷ ds)

-- What a call leaves of an installation.
module _ {W F : Type 0} where
  abbrev pub opened : Installation W F → Network W → Installation W F
  opened i g = record { book = Some g; drawn = i.drawn; fabric = i.fabric; player = i.player; laid = i.laid }

  abbrev pub drew : Installation W F → Network W → DrawnPlan W → Installation W F
  drew i g d = record { book = Some g; drawn = d ∷ i.drawn; fabric = i.fabric; player = i.player; laid = i.laid }

  abbrev pub laid : Installation W F → F → Player W → Installation W F
  laid i f p = record { book = i.book; drawn = i.drawn; fabric = f; player = p; laid = true }

  abbrev pub played : Installation W F → F → Player W → Installation W F
  played i f p = record { book = i.book; drawn = i.drawn; fabric = f; player = p; laid = i.laid }

-- The player after forward or backward from moment t to u, and after join or cancel, which end at moment v; and what is answered.
abbrev pub departed : {W : Type 0} → (t u : ℕ) → DrawnPlan W → Result Between (Kept Steady) → Player W
departed t u d (Ok b) = between b t u d
departed t u d (Err k) = steady k.player t d

abbrev pub arrived_at : {W : Type 0} → (t u v : ℕ) → DrawnPlan W → Result Steady (Kept Between) → Player W
arrived_at t u v d (Ok p) = steady p v d
arrived_at t u v d (Err k) = between k.player t u d

abbrev pub told : {X Y : Type 0} → Result X (Kept Y) → Answer
told (Ok x) = Granted
told (Err k) = Refused k.fault

-- One call. Open is granted at most once, and draw comes only after that. A player's call comes only to a player whose state allows
-- it. A granted lay, and then its player, get an earlier drawn plan, unaltered. The moment t is counted here, call by call.
module _ {W F : Type 0} (side : W → W → Side) (carrying : F → List Bool) where
  pub data Step (i : Installation W F) : Request W → Answer → Installation W F → Type 0 where
    open-granted : (g : Network W) (t w : ℕ) → i.book ≡ None → open_fault g.n g.ends g.links t w ≡ None
        → Step i (opening g t w) Opened (opened i g)
    open-refused : (g : Network W) (t w : ℕ) (f : OpenFault) → open_fault g.n g.ends g.links t w ≡ Some f
        → Step i (opening g t w) (NotOpened f) i
    draw-granted : (g : Network W) (batch : List (Change W)) (start : List ℕ) (entries : List (ℕ × ℕ)) (w : ℕ) → i.book ≡ Some g
        → draw_fault None g.n g.ends g.links batch (length start) (length entries) w ≡ None
        → Step i (drawing batch start entries w) (Drew (counts side g.n g.ends g.links batch))
        (drew i (after g batch) (drawn_from side g batch start entries))
    draw-refused : (g : Network W) (batch : List (Change W)) (start : List ℕ) (entries : List (ℕ × ℕ)) (w : ℕ) (f : DrawFault)
        → i.book ≡ Some g → draw_fault None g.n g.ends g.links batch (length start) (length entries) w ≡ Some f
        → Step i (drawing batch start entries w) (NotDrawn f) i
    lay-granted : (d : DrawnPlan W) (p : Steady) (f : F) → One d i.drawn → i.player ≡ nobody
        → Lays d.sheet (carrying i.fabric) (Ok p) (carrying f) → Step i (laying d.sheet) Granted (laid i f (steady p 0 d))
    lay-refused : (s : Sheet) (e : PlayerFault) (f : F) → Lays s (carrying i.fabric) (Err e) (carrying f)
        → Step i (laying s) (Refused e) (played i f i.player)
    forwards : (p : Steady) (t : ℕ) (d : DrawnPlan W) (r : Result Between (Kept Steady)) (f : F) → i.player ≡ steady p t d
        → Forwards (rest p) d.sheet (carrying i.fabric) r (carrying f) → Step i forward (told r) (played i f (departed t (t + 1) d r))
    backwards : (p : Steady) (t : ℕ) (d : DrawnPlan W) (r : Result Between (Kept Steady)) (f : F) → i.player ≡ steady p t d
        → Backwards (rest p) d.sheet (carrying i.fabric) r (carrying f) → Step i backward (told r) (played i f (departed t (t - 1) d r))
    joins : (b : Between) (t u : ℕ) (d : DrawnPlan W) (r : Result Steady (Kept Between)) (f : F) → i.player ≡ between b t u d
        → Joins (way b) (carrying i.fabric) r (carrying f) → Step i join (told r) (played i f (arrived_at t u u d r))
    cancels : (b : Between) (t u : ℕ) (d : DrawnPlan W) (r : Result Steady (Kept Between)) (f : F) → i.player ≡ between b t u d
        → Cancels (way b) (carrying i.fabric) r (carrying f) → Step i cancel (told r) (played i f (arrived_at t u t d r))
    abandons : (b : Between) (t u : ℕ) (d : DrawnPlan W) → i.player ≡ between b t u d
        → Step i abandon (Abandoned b.leaving b.coming) (played i i.fabric nobody)
    finishes : (p : Steady) (t : ℕ) (d : DrawnPlan W) → i.player ≡ steady p t d
        → Step i finish (Finished p.t) (played i i.fabric nobody)

  -- Any calls, one after another.
  pub data Runs : Installation W F → Installation W F → Type 0 where
    none : {i : Installation W F} → Runs i i
    then : {i j k : Installation W F} {q : Request W} {a : Answer} → Runs i j → Step j q a k → Runs i k

  -- The installations that calls bring about from a new one.
  abbrev pub Reached : Installation W F → Type 0
  Reached i = (f : F) × Runs (new f) i
