-- An installation: a book, a fabric, drawn plans and at most one player.
use Rattle.std.specs.Prelude.{ℕ, Bool, false, List, [], length, None, Option}
use Rattle.weights.specs.declared.order.Side.{Side}
use Rattle.network.specs.declared.types.Ends.{Ends}
use Rattle.network.specs.declared.types.LinkState.{LinkState}
use Rattle.network.specs.declared.types.Change.{Change}
use Rattle.plans.specs.Network.{least_tree, changed_by, links_at, plan, work_count}
use Rattle.planner.specs.Open.{fronted}
use Rattle.player.specs.Plan.{Sheet}
use Rattle.player.specs.declared.states.Steady.{Steady}
use Rattle.player.specs.declared.states.Between.{Between}

-- A network: its nodes are 1 to n, and link k has the ends, and the weight and state, at place k - 1.
pub record Network (W : Type 0) : Type 0 where
  pub n : ℕ
  pub ends : List Ends
  pub links : List (LinkState W)

-- The network after a batch of changes.
abbrev pub after : {W : Type 0} → Network W → List (Change W) → Network W
after g batch = record { n = g.n; ends = g.ends; links = changed_by g.links batch }

-- A drawn plan: the network that its draw found, the batch, the plan as a player reads it, and the work count told.
pub record DrawnPlan (W : Type 0) : Type 0 where
  pub found : Network W
  pub batch : List (Change W)
  pub sheet : Sheet
  pub work : ℕ

-- Moment t of a drawn plan: the network that its draw found, with the first t changes made.
abbrev pub moment : {W : Type 0} → DrawnPlan W → ℕ → Network W
moment d t = record { n = d.found.n; ends = d.found.ends; links = links_at d.found.links d.batch t }

-- What is drawn of a batch into a start list and an entry table, which keep their rest: the least tree at the start, an entry for
-- each change, and the work count.
abbrev pub drawn_from : {W : Type 0} → (W → W → Side) → Network W → List (Change W) → List ℕ → List (ℕ × ℕ) → DrawnPlan W
drawn_from side g batch start entries = record {
  found = g;
  batch = batch;
  sheet = record {
    n = g.n;
    m = length g.ends;
    k = length batch;
    start = fronted (least_tree side g.ends g.links) start;
    entries = fronted (plan side g.ends g.links batch) entries;
  };
  work = work_count side g.n g.ends g.links batch;
}

-- Nobody; or a player of a drawn plan, steady after t changes, or between, on its way from moment t to moment u.
pub data Player (W : Type 0) : Type 0 where
  nobody : Player W
  steady : Steady → (t : ℕ) → DrawnPlan W → Player W
  between : Between → (t u : ℕ) → DrawnPlan W → Player W

-- The network that was opened, as the granted draws since have left it; the drawn plans, the latest first; the fabric; the player;
-- and whether a lay was ever granted.
pub record Installation (W F : Type 0) : Type 0 where
  pub book : Option (Network W)
  pub drawn : List (DrawnPlan W)
  pub fabric : F
  pub player : Player W
  pub laid : Bool

-- A new one has nothing opened, drawn or laid. Its fabric may carry any links.
abbrev pub new : {W F : Type 0} → F → Installation W F
new f = record { book = None; drawn = []; fabric = f; player = nobody; laid = false }
