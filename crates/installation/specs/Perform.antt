-- What the performing calls make of a list of calls.
use Rattle.std.specs.Prelude.{◌≡◌, ℕ, ◌-◌, Bool, cond, ◌&&◌, List, [], ◌∷◌, map, length, take, drop, replicate, Some, None, Option, ◌==◌, nat_le, nat_lt, slice_index_or, slice_set}
use Rattle.std.specs.Option.{option_map}
use Rattle.weights.specs.declared.order.Side.{Side}
use Rattle.network.specs.declared.types.LinkState.{LinkState}
use Rattle.network.specs.declared.types.Change.{Change}
use Rattle.planner.specs.declared.tables.Tables.{Tables}
use Rattle.planner.specs.declared.drawn.Drawn.{Drawn}
use Rattle.plans.specs.Network.{least_tree}
use Rattle.planner.specs.Open.{fronted}
use Rattle.promise.specs.declared.answer.Answer.{Answer}
use Rattle.promise.specs.declared.answer.Answer.TheVariants as answer
use Rattle.promise.specs.Installation.{Network, DrawnPlan, Player, nobody, steady, between, Installation, new}
use Rattle.promise.specs.Calls.{Request, opening, drawing, laying, forward, backward, join, cancel, abandon, finish, Step, Runs}
use Rattle.promise.specs.Promise.{Stands}
use Rattle.installation.specs.declared.call.Batch.{Batch}
use Rattle.installation.specs.declared.call.Call.{Call}
use Rattle.installation.specs.declared.call.Call.TheVariants as call
use Rattle.installation.specs.declared.call.Line.{Line}
use Rattle.installation.specs.declared.memory.Memory.{Memory}
use Rattle.installation.specs.declared.seat.Seat.{Seat}
use Rattle.installation.specs.declared.seat.Seat.TheVariants.{Free, Still, Moving}
use Rattle.installation.specs.declared.seat.State.{State}
use Rattle.installation.specs.Slots.{width, part, or_kept, table_now}

-- The calls and the answers of a log.
abbrev pub calls : List Line → List Call
calls log = map (λ (x : Line). x.call) log

abbrev pub answers : List Line → List Answer
answers log = map (λ (x : Line). x.answer) log

-- The tables that are lent, as they stood before the first call: the network with its tree table, so many slots for drawn plans,
-- the list of changes that the batches are cut from, the start lists and the entries, a part for each slot, and a work area of so
-- many words.
pub record Lent (W : Type 0) : Type 0 where
  pub net : Network W
  pub tree : List ℕ
  pub slots : ℕ
  pub changes : List (Change W)
  pub start : List ℕ
  pub entries : List (ℕ × ℕ)
  pub work : ℕ

abbrev pub lent : {W : Type 0} → Tables W → Memory W → Lent W
lent tables memory = record {
  net = record { n = tables.n; ends = tables.ends.now; links = tables.links.now };
  tree = tables.tree.now;
  slots = length memory.plans.now;
  changes = memory.changes.now;
  start = memory.start.now;
  entries = memory.entries.now;
  work = length memory.work.now;
}

-- An installation and its slots: the plan that was last drawn into each, and the slot of the player's plan, if there is a player.
pub record Desk (W F : Type 0) : Type 0 where
  pub installation : Installation W F
  pub plans : List (Option (DrawnPlan W))
  pub at : ℕ

-- Nothing is opened, drawn or laid.
abbrev pub fresh : {W F : Type 0} → Lent W → F → Desk W F
fresh l f = record { installation = new f; plans = replicate l.slots None; at = 0 }

-- The plan in a slot, if there is one; and what it left in the slot's part of the start list and of the entry table.
abbrev pub plan_at : {W : Type 0} → List (Option (DrawnPlan W)) → ℕ → Option (DrawnPlan W)
plan_at plans s = slice_index_or plans s None

abbrev pub start_in : {W : Type 0} → List (Option (DrawnPlan W)) → ℕ → Option (List ℕ)
start_in plans s = option_map (λ (d : DrawnPlan _). d.sheet.start) (plan_at plans s)

abbrev pub entries_in : {W : Type 0} → List (Option (DrawnPlan W)) → ℕ → Option (List (ℕ × ℕ))
entries_in plans s = option_map (λ (d : DrawnPlan _). d.sheet.entries) (plan_at plans s)

-- A request that is made only before an open was granted, only after, only if there is a plan to lay, or only to a player in such
-- a state.
module _ {W : Type 0} where
  abbrev pub if_closed : Option (Network W) → Option (Request W) → Option (Request W)
  if_closed None q = q
  if_closed (Some g) q = None

  abbrev pub if_open : Option (Network W) → Option (Request W) → Option (Request W)
  if_open None q = None
  if_open (Some g) q = q

  abbrev pub lay_it : Option (DrawnPlan W) → Option (Request W)
  lay_it None = None
  lay_it (Some d) = Some (laying d.sheet)

  -- What there is for nobody, for a steady player, and for one between.
  abbrev pub by_player : {X : Type 0} → Player W → X → X → X → X
  by_player nobody x y z = x
  by_player (steady p t d) x y z = y
  by_player (between b t u d) x y z = z

-- The request to draw a batch into its slot's part of the tables.
abbrev pub drawn : {W F : Type 0} → Lent W → Desk W F → Batch → Request W
drawn l x b = drawing (take (b.to - b.from) (drop b.from l.changes))
    (or_kept (start_in x.plans b.slot) (part (width l.slots l.start) b.slot l.start))
    (or_kept (entries_in x.plans b.slot) (part (width l.slots l.entries) b.slot l.entries))
    l.work

-- What a call asks of an installation, if its state allows the call. A draw asks for changes and a slot that are there, and not for
-- the slot of the player's plan, which stays as it is.
abbrev pub asked : {W F : Type 0} → Lent W → Desk W F → Call → Option (Request W)
asked l x call.Open = if_closed x.installation.book (Some (opening l.net (length l.tree) l.work))
asked l x (call.Draw b) =
    if_open x.installation.book
    (cond (nat_le b.from b.to && nat_le b.to (length l.changes) && nat_lt b.slot l.slots)
    (by_player x.installation.player (Some (drawn l x b)) (cond (b.slot == x.at) None (Some (drawn l x b)))
    (cond (b.slot == x.at) None (Some (drawn l x b)))) None)
asked l x (call.Lay s) = by_player x.installation.player (lay_it (plan_at x.plans s)) None None
asked l x call.Forward = by_player x.installation.player None (Some forward) None
asked l x call.Backward = by_player x.installation.player None (Some backward) None
asked l x call.Join = by_player x.installation.player None None (Some join)
asked l x call.Cancel = by_player x.installation.player None None (Some cancel)
asked l x call.Abandon = by_player x.installation.player None None (Some abandon)
asked l x call.Finish = by_player x.installation.player None (Some finish) None

-- What there is if a draw was granted, if another call was, or else.
abbrev pub by_answer : {X : Type 0} → Answer → X → X → X → X
by_answer answer.NotMade x y z = z
by_answer answer.Opened x y z = z
by_answer (answer.NotOpened f) x y z = z
by_answer (answer.Drew d) x y z = x
by_answer (answer.NotDrawn f) x y z = z
by_answer answer.Granted x y z = y
by_answer (answer.Refused f) x y z = z
by_answer (answer.Abandoned l c) x y z = z
by_answer (answer.Finished t) x y z = z

-- The latest of the drawn plans.
abbrev pub latest : {W : Type 0} → List (DrawnPlan W) → Option (DrawnPlan W)
latest [] = None
latest (d ∷ ds) = Some d

-- The plans in the slots after a call with this answer, if these plans are drawn then; and the slot of the player's plan after it.
abbrev pub plans_after : {W : Type 0} → Call → Answer → List (DrawnPlan W) → List (Option (DrawnPlan W)) → List (Option (DrawnPlan W))
plans_after call.Open a ds ps = ps
plans_after (call.Draw b) a ds ps = by_answer a (slice_set ps b.slot (latest ds)) ps ps
plans_after (call.Lay s) a ds ps = ps
plans_after call.Forward a ds ps = ps
plans_after call.Backward a ds ps = ps
plans_after call.Join a ds ps = ps
plans_after call.Cancel a ds ps = ps
plans_after call.Abandon a ds ps = ps
plans_after call.Finish a ds ps = ps

abbrev pub slot_after : Call → Answer → ℕ → ℕ
slot_after call.Open a at = at
slot_after (call.Draw b) a at = at
slot_after (call.Lay s) a at = by_answer a at s at
slot_after call.Forward a at = at
slot_after call.Backward a at = at
slot_after call.Join a at = at
slot_after call.Cancel a at = at
slot_after call.Abandon a at = at
slot_after call.Finish a at = at

module _ {W F : Type 0} (side : W → W → Side) (carrying : F → List Bool) where
  -- A call that is not allowed is answered as not made and changes nothing; any other is a step.
  abbrev pub Made : Option (Request W) → Installation W F → Answer → Installation W F → Type 0
  Made None i a j = (a ≡ answer.NotMade) × (j ≡ i)
  Made (Some q) i a j = Step side carrying i q a j

  -- One call.
  pub record Turn (l : Lent W) (x : Desk W F) (c : Call) (a : Answer) (y : Desk W F) : Type 0 where
    pub made : Made (asked l x c) x.installation a y.installation
    pub plans : y.plans ≡ plans_after c a y.installation.drawn x.plans
    pub at : y.at ≡ slot_after c a x.at

  -- Calls and their answers.
  pub data Turns (l : Lent W) : Desk W F → List Call → List Answer → Desk W F → Type 0 where
    done : {x : Desk W F} → Turns l x [] [] x
    next : {x y z : Desk W F} {c : Call} {a : Answer} {cs : List Call} {rs : List Answer}
        → Turn l x c a y → Turns l y cs rs z → Turns l x (c ∷ cs) (a ∷ rs) z

  -- Whatever is performed is calls, one after another.
  abbrev pub TurnsRun : Type 0
  TurnsRun = (l : Lent W) (x y : Desk W F) (cs : List Call) (rs : List Answer) → Turns l x cs rs y
      → Runs side carrying x.installation y.installation

-- The player in the seat, and its plan.
abbrev pub Seated : {W : Type 0} → Seat → Option (DrawnPlan W) → Player W → Type 0
Seated Free o q = q ≡ nobody
Seated {W} (Still p) o q = (t : ℕ) × (d : DrawnPlan W) × (o ≡ Some d) × (q ≡ steady p t d)
Seated {W} (Moving b) o q = (t : ℕ) × (u : ℕ) × (d : DrawnPlan W) × (o ≡ Some d) × (q ≡ between b t u d)

-- The counts of a drawn plan.
abbrev pub counted : {W : Type 0} → DrawnPlan W → Drawn
counted d = record { n = d.sheet.n; m = d.sheet.m; k = d.sheet.k; work = d.work }

-- The link table and the tree table, once a network is opened.
abbrev pub links_now : {W : Type 0} → List (LinkState W) → Option (Network W) → List (LinkState W)
links_now links None = links
links_now links (Some g) = g.links

abbrev pub tree_now : {W : Type 0} → (W → W → Side) → List ℕ → Option (Network W) → List ℕ
tree_now side tree None = tree
tree_now side tree (Some g) = fronted (least_tree side g.ends g.links) tree

-- What is left in the lent tables, the seat and the fabric.
pub record Leaves {W F : Type 0} (side : W → W → Side) (l : Lent W) (x : Desk W F)
    (tables : Tables W) (memory : Memory W) (state : State) (f : F) : Type 0 where
  pub nodes : tables.n ≡ l.net.n
  pub ends : tables.ends.now ≡ l.net.ends
  pub links : tables.links.now ≡ links_now l.net.links x.installation.book
  pub tree : tables.tree.now ≡ tree_now side l.tree x.installation.book
  pub plans : memory.plans.now ≡ map (option_map counted) x.plans
  pub start : memory.start.now ≡ table_now l.slots (start_in x.plans) l.start
  pub entries : memory.entries.now ≡ table_now l.slots (entries_in x.plans) l.entries
  pub player : Seated state.seat (plan_at x.plans state.slot) x.installation.player
  pub fabric : x.installation.fabric ≡ f

-- From a new installation with this fabric, these calls with these answers lead to one that leaves this, and the promise stands of it.
abbrev pub Performed : {W F : Type 0} → (W → W → Side) → (F → List Bool) → Lent W → F → List Call → List Answer
    → Tables W → Memory W → State → F → Type 0
Performed {W} {F} side carrying l before cs rs tables memory state after =
    (x : Desk W F) × Turns side carrying l (fresh l before) cs rs x × Leaves side l x tables memory state after
    × Stands side carrying x.installation
