-- A network in its own words: the order of its links by standing and number, its least tree, what changes do, the plan of a batch
-- and its work.
use Rattle.std.specs.Prelude.{◌≡◌, ℕ, zero, suc, Bool, true, false, cond, not, List, [], ◌∷◌, map, take, ◌≢◌}
use Rattle.weights.specs.declared.order.Side.{Side}
use Rattle.weights.specs.declared.order.Side.TheVariants.{Before, Level, After}
use Rattle.weights.specs.declared.standing.Standing.{Standing}
use Rattle.weights.specs.declared.standing.Standing.TheVariants.{At, Absent}
use Rattle.weights.specs.Order.{stand}
use Rattle.network.specs.declared.types.Ends.{Ends}
use Rattle.network.specs.declared.types.LinkState.{LinkState}
use Rattle.network.specs.declared.types.Change.{Change}
use Rattle.network.specs.declared.types.Change.TheVariants.{Set, Remove, Flip}
pub use Rattle.network.specs.Standings.{standing_if, standing_of}
use Rattle.block_records.specs.declared.Link.{Link}
use Rattle.graphs.specs.Forest.{forest, filtered}
use Rattle.graphs.specs.Spanning.{all_joined}
use Rattle.block_records.specs.declared.Move.{Move}
use Rattle.plans.specs.Places.{Scale, value_of, before_by}
use Rattle.plans.specs.Plan.{Entry, numbers, entries_by}
use Rattle.plans.specs.Work.{work_by}
use Rattle.plans.specs.Tears.{first_tear_by}

-- The laws of a kind's order, for any weights u, v and w: u is level with itself; u is before v exactly when v is after u; if u is not after v,
-- and v is not after w, then u is not after w.
pub record Sided {W : Type 0} (side : W → W → Side) : Type 0 where
  pub level : (u : W) → side u u ≡ Level
  pub mirrored : (u v : W) → side u v ≡ Before → side v u ≡ After
  pub back : (u v : W) → side v u ≡ After → side u v ≡ Before
  pub passes : (u v w : W) → (side u v ≢ After) → (side v w ≢ After) → side u w ≢ After

-- The links of an ends list, numbered from k; from 1.
unfoldable pub graph_from : ℕ → List Ends → List Link
graph_from k [] = []
graph_from k (e ∷ ends) = record { number = k; a = record { 0 = e.a.0 }; b = record { 0 = e.b.0 } } ∷ graph_from (suc k) ends

abbrev pub graph_of : List Ends → List Link
graph_of ends = graph_from 1 ends

abbrev pub is_before : Side → Bool
is_before Before = true
is_before Level = false
is_before After = false

abbrev pub is_level : Side → Bool
is_level Before = false
is_level Level = true
is_level After = false

-- How the links of a table stand.
abbrev pub standings : {W : Type 0} → List (LinkState W) → List (Standing W)
standings links = map (λ (l : LinkState _). standing_of l) links

-- How link k stands; a number that is no link's is absent.
abbrev pub standing_at : {W : Type 0} → List (LinkState W) → ℕ → Standing W
standing_at links k = value_of Absent (standings links) k

-- Standings as a scale: by weight, and absent after all present ones.
abbrev pub by_standing : {W : Type 0} → (W → W → Side) → Scale (Standing W)
by_standing side = record { ahead = λ u v. is_before (stand side u v); level = λ u v. is_level (stand side u v); none = Absent }

-- The order of links: by standing, then by number.
abbrev pub link_before : {W : Type 0} → (W → W → Side) → List (LinkState W) → ℕ → ℕ → Bool
link_before side links j k = before_by (by_standing side) (standings links) j k

-- The links that are present.
abbrev pub is_at : {W : Type 0} → Standing W → Bool
is_at (At w) = true
is_at Absent = false

abbrev pub present_links : {W : Type 0} → List (LinkState W) → List Link → List Link
present_links links es = filtered (λ e. is_at (standing_at links e.number)) es

-- The least forest of the present links, and its numbers ascending: the least tree, where they join all nodes.
abbrev pub least_forest : {W : Type 0} → (W → W → Side) → List Ends → List (LinkState W) → List Link
least_forest side ends links = forest (link_before side links) (present_links links (graph_of ends))

abbrev pub least_tree : {W : Type 0} → (W → W → Side) → List Ends → List (LinkState W) → List ℕ
least_tree side ends links = numbers (least_forest side ends links)

-- The link that a change names, and what the change makes of it: set gives it a weight and makes it present, remove makes it absent,
-- flip changes its state; both keep its weight.
abbrev pub link_of : {W : Type 0} → Change W → ℕ
link_of (Set k w) = k
link_of (Remove k) = k
link_of (Flip k) = k

abbrev pub changed_link : {W : Type 0} → Change W → LinkState W → LinkState W
changed_link (Set k w) l = record { weight = w; present = true }
changed_link (Remove k) l = record { weight = l.weight; present = false }
changed_link (Flip k) l = record { weight = l.weight; present = not l.present }

-- A list with what stands at position k altered; nothing changes if it is shorter.
unfoldable pub altered : {A : Type 0} → (A → A) → List A → ℕ → List A
altered f [] k = []
altered f (x ∷ xs) zero = f x ∷ xs
altered f (x ∷ xs) (suc k) = x ∷ altered f xs k

-- The table with link k altered, which stands at position k - 1. The number 0 is no link.
unfoldable pub altered_link : {W : Type 0} → (LinkState W → LinkState W) → List (LinkState W) → ℕ → List (LinkState W)
altered_link f links zero = links
altered_link f links (suc k) = altered f links k

-- The link table after a change; after several, in turn; at moment t of a batch, after its first t changes.
abbrev pub changed : {W : Type 0} → List (LinkState W) → Change W → List (LinkState W)
changed links c = altered_link (changed_link c) links (link_of c)

unfoldable pub changed_by : {W : Type 0} → List (LinkState W) → List (Change W) → List (LinkState W)
changed_by links [] = links
changed_by links (c ∷ cs) = changed_by (changed links c) cs

abbrev pub links_at : {W : Type 0} → List (LinkState W) → List (Change W) → ℕ → List (LinkState W)
links_at links batch t = changed_by links (take t batch)

-- A change as a move: its link, and how that stands after it. A batch as moves, in turn.
abbrev pub move_of : {W : Type 0} → List (LinkState W) → Change W → Move (Standing W)
move_of links c = record { link = link_of c; to = standing_at (changed links c) (link_of c) }

unfoldable pub moves_of : {W : Type 0} → List (LinkState W) → List (Change W) → List (Move (Standing W))
moves_of links [] = []
moves_of links (c ∷ cs) = move_of links c ∷ moves_of (changed links c) cs

-- The plan of a batch: for each change the link that leaves the least tree and the link that comes, or (0, 0).
abbrev pub plan : {W : Type 0} → (W → W → Side) → List Ends → List (LinkState W) → List (Change W) → List Entry
plan side ends links batch = entries_by (by_standing side) (standings links) (graph_of ends) (moves_of links batch)

-- The work count of a batch on n nodes.
abbrev pub work_count : {W : Type 0} → (W → W → Side) → ℕ → List Ends → List (LinkState W) → List (Change W) → ℕ
work_count side n ends links batch =
    work_by (by_standing side) (standings links) (record { nodes = n; links = graph_of ends }) (moves_of links batch)

-- The number, counted from k, of the first change after which the present links do not join all nodes from 1 to n; 0 if there is none.
unfoldable pub parted_from : {W : Type 0} → ℕ → ℕ → List Ends → List (LinkState W) → List (Change W) → ℕ
parted_from k n ends links [] = 0
parted_from k n ends links (c ∷ cs) =
    cond (all_joined n (present_links (changed links c) (graph_of ends))) (parted_from (suc k) n ends (changed links c) cs) k

abbrev pub parted_at : {W : Type 0} → ℕ → List Ends → List (LinkState W) → List (Change W) → ℕ
parted_at n ends links batch = parted_from 1 n ends links batch

-- How many changes are made before the first after which the least forest of all links, absent ones too, holds an absent one.
abbrev pub is_absent : {W : Type 0} → Standing W → Bool
is_absent (At w) = false
is_absent Absent = true

abbrev pub tear_of : {W : Type 0} → (W → W → Side) → List Ends → List (LinkState W) → List (Change W) → ℕ
tear_of side ends links batch =
    first_tear_by (λ u. is_absent u) (by_standing side) (standings links) (graph_of ends) (moves_of links batch)
