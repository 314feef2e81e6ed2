-- What code holds of an installation while it makes calls on it.
use Rattle.std.specs.Prelude.{◌≡◌, ℕ, Bool, true, false, cond, not, ◌&&◌, ◌||◌, List, map, length, is_some, Some, None, Option, ◌==◌, nat_le, nat_lt}
use Rattle.std.specs.Option.{option_map}
use Rattle.faults.specs.declared.OpenFault.{OpenFault}
use Rattle.weights.specs.declared.order.Side.{Side}
use Rattle.weights.specs.declared.order.Ordered
use Rattle.weights.specs.declared.weight.Weight
use Rattle.network.specs.declared.types.Ends.{Ends}
use Rattle.network.specs.declared.types.LinkState.{LinkState}
use Rattle.network.specs.declared.types.Change.{Change}
use Rattle.plans.specs.Network.{least_tree}
use Rattle.planner.specs.Open.{fronted, open_fault}
use Rattle.planner.specs.declared.book.Book.{Book}
use Rattle.planner.specs.declared.drawn.Drawn.{Drawn}
use Rattle.promise.specs.declared.answer.Answer.{Answer}
use Rattle.promise.specs.declared.answer.Answer.TheVariants.{NotMade, Opened, NotOpened}
use Rattle.promise.specs.Installation.{Network, DrawnPlan}
use Rattle.promise.specs.Calls.{One}
use Rattle.installation.specs.declared.call.Batch.{Batch}
use Rattle.installation.specs.declared.call.Call.{Call}
use Rattle.installation.specs.declared.call.Call.TheVariants as call
use Rattle.installation.specs.declared.memory.Memory.{Memory}
use Rattle.installation.specs.declared.seat.Seat.{Seat}
use Rattle.installation.specs.declared.seat.Seat.TheVariants.{Free, Still, Moving}
use Rattle.installation.specs.declared.seat.State.{State}
use Rattle.installation.specs.Slots.{Table}
use Rattle.installation.specs.Perform.{Lent, Desk, plan_at, start_in, entries_in, counted, Turn, Turns, Seated}

-- The link table and the tree table of a book that was opened, or refused.
abbrev pub Booked : {W : Type 0} → (W → W → Side) → Lent W → Option OpenFault → List (LinkState W) → List ℕ → Option (Network W) → Type 0
Booked side l None links tree o =
    (o ≡ Some (record { n = l.net.n; ends = l.net.ends; links = links })) × (tree ≡ fronted (least_tree side l.net.ends links) l.tree)
Booked side l (Some f) links tree o =
    (o ≡ None) × (open_fault l.net.n l.net.ends l.net.links (length l.tree) l.work ≡ Some f) × (links ≡ l.net.links) × (tree ≡ l.tree)

-- What code holds of an installation: the book's tables, or those of a refused one; the counts of the plans in the slots, and their
-- tables; the player and the slot of its plan; and the fabric.
pub record Hand (W F : Type 0) : Type 0 where
  pub n : ℕ
  pub ends : List Ends
  pub links : List (LinkState W)
  pub tree : List ℕ
  pub refusal : Option OpenFault
  pub plans : List (Option Drawn)
  pub changes : List (Change W)
  pub start : List ℕ
  pub entries : List (ℕ × ℕ)
  pub work : ℕ
  pub seat : Seat
  pub at : ℕ
  pub fabric : F

abbrev pub hand : {W F : Type 0} {kind : Weight.Ghosts W} {order : Ordered.Ghosts W} → Book W kind order → Memory W → State → F → Hand W F
hand book memory state fabric = record {
  n = book.n;
  ends = book.ends.now;
  links = book.links.now;
  tree = book.tree.now;
  refusal = book.refusal;
  plans = memory.plans.now;
  changes = memory.changes.now;
  start = memory.start.now;
  entries = memory.entries.now;
  work = length memory.work.now;
  seat = state.seat;
  at = state.slot;
  fabric = fabric;
}

pub record Holds {W F : Type 0} (side : W → W → Side) (l : Lent W) (h : Hand W F) (x : Desk W F) : Type 0 where
  pub nodes : h.n ≡ l.net.n
  pub ends : h.ends ≡ l.net.ends
  pub changes : h.changes ≡ l.changes
  pub work : h.work ≡ l.work
  pub book : Booked side l h.refusal h.links h.tree x.installation.book
  pub slots : length x.plans ≡ l.slots
  pub plans : h.plans ≡ map (option_map counted) x.plans
  pub drawn : (s : ℕ) (d : DrawnPlan W) → plan_at x.plans s ≡ Some d → One d x.installation.drawn
  pub start : Table l.slots (start_in x.plans) l.start h.start
  pub entries : Table l.slots (entries_in x.plans) l.entries h.entries
  pub at : h.at ≡ x.at
  pub player : Seated h.seat (plan_at x.plans x.at) x.installation.player
  pub fabric : x.installation.fabric ≡ h.fabric

module _ {W F : Type 0} (side : W → W → Side) (carrying : F → List Bool) where
  -- From each installation that code may hold by one hand, this call with this answer leads to one that it holds by the other;
  -- and so do several.
  abbrev pub Makes : Hand W F → Call → Answer → Hand W F → Type 0
  Makes h c a g = (l : Lent W) (x : Desk W F) → Holds side l h x → (y : Desk W F) × Turn side carrying l x c a y × Holds side l g y

  abbrev pub Leads : Hand W F → List Call → List Answer → Hand W F → Type 0
  Leads h cs rs g = (l : Lent W) (x : Desk W F) → Holds side l h x → (y : Desk W F) × Turns side carrying l x cs rs y × Holds side l g y

-- Whether there is no player, and whether a batch is drawn with so many changes and slots at hand.
abbrev pub is_free : Seat → Bool
is_free Free = true
is_free (Still p) = false
is_free (Moving b) = false

abbrev pub may_draw : Batch → ℕ → ℕ → Option OpenFault → Seat → ℕ → Bool
may_draw b changes slots refusal seat at =
    cond (is_some refusal) false
    (cond (nat_le b.from b.to && nat_le b.to changes && nat_lt b.slot slots) (is_free seat || not (b.slot == at)) false)

-- The slot of the plan that a call needs: lay's own where there is no player, else the player's.
abbrev pub place_of : Call → Seat → ℕ → ℕ
place_of call.Open seat at = at
place_of (call.Draw b) seat at = at
place_of (call.Lay s) seat at = cond (is_free seat) s at
place_of call.Forward seat at = at
place_of call.Backward seat at = at
place_of call.Join seat at = at
place_of call.Cancel seat at = at
place_of call.Abandon seat at = at
place_of call.Finish seat at = at

-- Whether a call is made to a player, or makes one.
abbrev pub to_player : Call → Bool
to_player call.Open = false
to_player (call.Draw b) = false
to_player (call.Lay s) = true
to_player call.Forward = true
to_player call.Backward = true
to_player call.Join = true
to_player call.Cancel = true
to_player call.Abandon = true
to_player call.Finish = true

-- What open answers, and what a further one does.
abbrev pub first_answer : Option OpenFault → Answer
first_answer (Some f) = NotOpened f
first_answer None = Opened

abbrev pub open_answer : Option OpenFault → Answer
open_answer (Some f) = NotOpened f
open_answer None = NotMade
