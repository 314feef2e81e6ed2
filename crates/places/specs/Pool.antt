-- The pool of a batch: all standings that occur in it, each told by where its weight stands; and the places of a ranking.
use Rattle.std.specs.Prelude.{◌≡◌, ℕ, zero, suc, ◌+◌, ◌-◌, Bool, cond, List, ◌++◌, map, Result, ◌==◌, slice_index, slice_index_or, slice_set}
use Rattle.faults.specs.declared.DrawFault.{DrawFault}
use Rattle.weights.specs.declared.order.Side.{Side}
use Rattle.weights.specs.declared.standing.Standing.{Standing}
use Rattle.weights.specs.declared.standing.Standing.TheVariants.{At, Absent}
use Rattle.weights.specs.Order.{stand}
use Rattle.network.specs.declared.types.LinkState.{LinkState}
use Rattle.network.specs.declared.types.Change.{Change}
use Rattle.network.specs.declared.types.Change.TheVariants.{Set, Remove, Flip}
use Rattle.network.specs.Ends.{unless}
use Rattle.plans.specs.Network.{is_before, link_of}
use Rattle.places.specs.Changes.{change_fault}

-- How often a ranking steps up from place 0 to place k, where f k is the index that stands at place k.
unfoldable pub rank : (ℕ → ℕ → Bool) → (ℕ → ℕ) → ℕ → ℕ
rank lt f zero = 0
rank lt f (suc k) = rank lt f k + cond (lt (f k) (f (suc k))) 1 0

-- Whether the i-th of some standings is before the j-th, counted from 0.
abbrev pub stands_before : {W : Type 0} → (W → W → Side) → List (Standing W) → ℕ → ℕ → Bool
stands_before side ss i j = is_before (stand side (slice_index_or ss i Absent) (slice_index_or ss j Absent))

-- The weight that a change sets; the other changes set none.
abbrev pub set_to : {W : Type 0} → Change W → Standing W
set_to (Set k w) = At w
set_to (Remove k) = Absent
set_to (Flip k) = Absent

-- A link's weight, whatever its state.
abbrev pub weight_of : {W : Type 0} → LinkState W → Standing W
weight_of l = At l.weight

-- Where weights stand: that of link index q at q, and with m links what change j, counted from 0, sets at m + j.
unfoldable pub weights_of : {W : Type 0} → List (LinkState W) → List (Change W) → List (Standing W)
weights_of links batch = map (λ (l : LinkState _). weight_of l) links ++ map (λ (c : Change _). set_to c) batch

-- What stands at q among these weights; any other number is absent.
abbrev pub told_by : {W : Type 0} → List (Standing W) → ℕ → Standing W
told_by weights q = slice_index_or weights q Absent

-- The standings that a table of such numbers tells.
abbrev pub told : {W : Type 0} → List (Standing W) → List ℕ → List (Standing W)
told weights sources = map (told_by weights) sources

-- The same of the weights of a link table and a batch.
abbrev pub sourced : {W : Type 0} → List (LinkState W) → List (Change W) → List ℕ → List (Standing W)
sourced links batch sources = told (weights_of links batch) sources

-- The number at which no weight stands.
abbrev pub nowhere : ℕ
nowhere = 4294967295

-- Where the standing of a link stands whose weight stands at q and whose state is p: 0 for absent, 1 for present.
abbrev pub source_of : ℕ → ℕ → ℕ
source_of q p = cond (p == 0) nowhere q

-- The state of a link as a number.
abbrev pub state_of : {W : Type 0} → LinkState W → ℕ
state_of l = cond l.present 1 0

abbrev pub states : {W : Type 0} → List (LinkState W) → List ℕ
states links = map (λ (l : LinkState _). state_of l) links

-- The answer on change i, of any links in these states.
abbrev pub Judged : {W : Type 0} → ℕ → Change W → List ℕ → Result (Unit {0}) DrawFault → Type 0
Judged {W} i c present r = (links : List (LinkState W)) → present ≡ states links → r ≡ unless (change_fault i links c) tt

-- Where the weights of the links stand after a change, if what it sets stands at q.
abbrev pub held_by : {W : Type 0} → Change W → ℕ → List ℕ → List ℕ
held_by (Set k w) q held = slice_set held (k - 1) q
held_by (Remove k) q held = held
held_by (Flip k) q held = held

-- The state of its link after a change.
abbrev pub state_by : {W : Type 0} → Change W → ℕ → ℕ
state_by (Set k w) p = 1
state_by (Remove k) p = 0
state_by (Flip k) p = cond (p == 0) 1 0

-- The states of the links after a change.
abbrev pub states_by : {W : Type 0} → Change W → List ℕ → List ℕ
states_by c present = slice_set present (link_of c - 1) (state_by c (slice_index present (link_of c - 1)))

-- Where the standing of its link stands after a change.
abbrev pub source_by : {W : Type 0} → Change W → ℕ → List ℕ → List ℕ → ℕ
source_by c q held present = source_of (slice_index (held_by c q held) (link_of c - 1)) (slice_index (states_by c present) (link_of c - 1))
