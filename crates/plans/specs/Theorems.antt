-- What is proved of plans and work, as statements about a network.
use Rattle.std.specs.Prelude.{◌≡◌, ℕ, suc, ◌+◌, ◌*◌, ◌^◌, ◌<◌, ◌≤◌, true, cond, not, ◌⊎◌, ◌↔◌, List, [], ◌++◌, length, get_or, take, drop, ◌≢◌, nat_lt, slice_index_or}
use Rattle.weights.specs.declared.order.Side.{Side}
use Rattle.weights.specs.declared.standing.Standing.{Standing}
use Rattle.network.specs.declared.types.Ends.{Ends}
use Rattle.network.specs.declared.types.LinkState.{LinkState}
use Rattle.network.specs.declared.types.Change.{Change}
use Rattle.block_records.specs.declared.Link.{Link}
use Rattle.graphs.specs.Graph.{In}
use Rattle.graphs.specs.Forest.{Distinct, forest, uptos}
use Rattle.graphs.specs.Spanning.{Within, AllJoined, all_joined, SpanningTree}
use Rattle.graphs.specs.Thin.{Block}
use Rattle.block_records.specs.declared.Move.{Move}
use Rattle.plans.specs.Places.{moved_by}
use Rattle.plans.specs.Plan.{Entry, replayed, tree_at, entries, tree_by, entries_by, Exchange}
use Rattle.plans.specs.Work.{half, thinned_by, work, doublings}
use Rattle.plans.specs.Tears.{torn_by, torn_at, first_tear}
use Rattle.plans.specs.Network.{graph_of, standings, standing_at, is_at, link_before, present_links, least_forest, least_tree, link_of, changed_by, links_at, moves_of, plan, work_count, parted_at, by_standing, is_absent, tear_of}
use Rattle.plans.specs.Same.{Faithful, AbsentAt}

-- The entry of no exchange.
abbrev pub none : Entry
none = (0, 0)

-- A plan has an entry for each change. An entry has both numbers or none, and with both it names its change's link. Where the present links join
-- all nodes at every moment, the least tree at the start and the first t entries replayed on it give the least tree of moment t; and each change
-- exchanges at most one link of the least tree for one other, of which one is its own.
pub record Replays {W : Type 0} (side : W → W → Side) (n : ℕ) (ends : List Ends) (links : List (LinkState W)) (batch : List (Change W)) : Type 0 where
  pub many : length (plan side ends links batch) ≡ length batch
  pub pairs : (t : ℕ) → t < length batch
      → ((get_or (plan side ends links batch) t none).0 ≡ 0) ↔ ((get_or (plan side ends links batch) t none).1 ≡ 0)
  pub names : (t : ℕ) (c : Change W) → t < length batch → (slice_index_or (plan side ends links batch) t none ≢ none)
      → ((get_or (plan side ends links batch) t none).0 ≡ link_of (slice_index_or batch t c)) ⊎ ((get_or (plan side ends links batch) t none).1 ≡ link_of (slice_index_or batch t c))
  pub moments : ((t : ℕ) → AllJoined n (present_links (links_at links batch t) (graph_of ends)))
      → (t : ℕ) → replayed (least_tree side ends links) (plan side ends links batch) t ≡ least_tree side ends (links_at links batch t)
  pub one : ((t : ℕ) → AllJoined n (present_links (links_at links batch t) (graph_of ends))) → (t : ℕ) (c : Change W) → t < length batch
      → Exchange (link_of (slice_index_or batch t c)) (least_tree side ends (links_at links batch t)) (least_tree side ends (links_at links batch (suc t)))

abbrev pub PlansReplay : {W : Type 0} → (W → W → Side) → Type 0
PlansReplay {W} side = (n : ℕ) (ends : List Ends) → Within n (graph_of ends)
    → (links : List (LinkState W)) (batch : List (Change W)) → Replays side n ends links batch

-- The changes of a batch, as moves of standings, make of the standings those of the changed links.
abbrev pub MovesStandings : Type 0 → Type 0
MovesStandings W = (links : List (LinkState W)) (batch : List (Change W))
    → standings (changed_by links batch) ≡ moved_by (standings links) (moves_of links batch)

-- A block of changes, on any graph and any standings: its entries are those of its first half, rounded up, and of the rest, both on the thinned
-- graph, the rest with the standings that the first half leaves. The thinned graph has at most two links for each change.
pub record Halves {W : Type 0} (side : W → W → Side) (table : List (Standing W)) (g : Block) (cs : List (Move (Standing W))) : Type 0 where
  pub same : let first = take (half cs) cs in let rest = drop (half cs) cs in let t = (thinned_by (by_standing side) table cs g).links in
      entries_by (by_standing side) table g.links cs
      ≡ entries_by (by_standing side) table t first ++ entries_by (by_standing side) (moved_by table first) t rest
  pub few : length (thinned_by (by_standing side) table cs g).links ≤ 2 * length cs

abbrev pub BlocksHalve : {W : Type 0} → (W → W → Side) → Type 0
BlocksHalve {W} side = (table : List (Standing W)) (g : Block) → Distinct g.links → (cs : List (Move (Standing W))) → Halves side table g cs

-- L is the least with m ≤ 2 ^ L.
pub record LeastPower (m l : ℕ) : Type 0 where
  pub reaches : m ≤ 2 ^ l
  pub least : (k : ℕ) → k < l → 2 ^ k < m

-- The work of K changes on m links is at most m + K + 4 × K × L, L the least with m ≤ 2 ^ L; that of no change is 0.
pub record Bounded {W : Type 0} (side : W → W → Side) (n : ℕ) (ends : List Ends) (links : List (LinkState W)) (batch : List (Change W)) : Type 0 where
  pub exponent : LeastPower (length ends) (doublings (length ends))
  pub bound : work_count side n ends links batch ≤ length ends + length batch + 4 * length batch * doublings (length ends)
  pub idle : work_count side n ends links [] ≡ 0

abbrev pub WorkBounded : {W : Type 0} → (W → W → Side) → Type 0
WorkBounded {W} side = (n : ℕ) (ends : List Ends)
    → (links : List (LinkState W)) (batch : List (Change W)) → Bounded side n ends links batch

-- Where all links, absent ones too, join all nodes: the least forest over all of them has n - 1 links; the present ones join all nodes exactly if
-- none of it is absent, and then it is the least tree of the present links. The first change after which the present links do not join all nodes
-- is the first after which it holds an absent one.
pub record Absentees {W : Type 0} (side : W → W → Side) (n : ℕ) (ends : List Ends) (links : List (LinkState W)) : Type 0 where
  pub many : suc (length (forest (link_before side links) (graph_of ends))) ≡ n
  pub joined : AllJoined n (present_links links (graph_of ends))
      ↔ ((f : Link) → In f (forest (link_before side links) (graph_of ends)) → is_at (standing_at links f.number) ≡ true)
  pub theirs : AllJoined n (present_links links (graph_of ends)) → forest (link_before side links) (graph_of ends) ≡ least_forest side ends links
  pub torn : all_joined n (present_links links (graph_of ends)) ≡ not (torn_by (λ u. is_absent u) (by_standing side) (standings links) (graph_of ends))
  pub parted : (batch : List (Change W))
      → parted_at n ends links batch ≡ cond (nat_lt (tear_of side ends links batch) (length batch)) (1 + tear_of side ends links batch) 0

abbrev pub AbsentLast : {W : Type 0} → (W → W → Side) → Type 0
AbsentLast {W} side = (n : ℕ) → 1 ≤ n → (ends : List Ends) → Within n (graph_of ends) → AllJoined n (graph_of ends)
    → (links : List (LinkState W)) → Absentees side n ends links

-- Where the present links join all nodes, the least forest is a spanning tree of them, and for each of them, z, no spanning tree of them has more
-- links ordered up to z.
pub record Least {W : Type 0} (side : W → W → Side) (n : ℕ) (ends : List Ends) (links : List (LinkState W)) : Type 0 where
  pub tree : SpanningTree n (present_links links (graph_of ends)) (least_forest side ends links)
  pub least : (t : List Link) → SpanningTree n (present_links links (graph_of ends)) t → (z : Link) → In z (present_links links (graph_of ends))
      → length (uptos (link_before side links) z t) ≤ length (uptos (link_before side links) z (least_forest side ends links))
  pub many : length (least_tree side ends links) ≡ length (least_forest side ends links)

abbrev pub TreeLeast : {W : Type 0} → (W → W → Side) → Type 0
TreeLeast {W} side = (n : ℕ) (ends : List Ends)
    → (links : List (LinkState W)) → AllJoined n (present_links links (graph_of ends)) → Least side n ends links

-- Same order, same plan: where places are faithful to standings, the tree at each moment, the plan and the work by places are those by standings;
-- and so is whether the least forest holds an absent link before the batch, and the first change after which it does, if the absent place is.
pub record SamePlan {W : Type 0} (side : W → W → Side) (n : ℕ) (ends : List Ends) (links : List (LinkState W)) (batch : List (Change W))
    (places : List ℕ) (moves : List (Move ℕ)) : Type 0 where
  pub tree : tree_at places (graph_of ends) ≡ tree_by (by_standing side) (standings links) (graph_of ends)
  pub plan : entries places (graph_of ends) moves ≡ plan side ends links batch
  pub work : work places (record { nodes = n; links = graph_of ends }) moves ≡ work_count side n ends links batch
  pub start : (absent : ℕ) → AbsentAt absent links batch places moves
      → torn_at absent places (graph_of ends) ≡ torn_by (λ u. is_absent u) (by_standing side) (standings links) (graph_of ends)
  pub tear : (absent : ℕ) → AbsentAt absent links batch places moves → first_tear absent places (graph_of ends) moves ≡ tear_of side ends links batch

abbrev pub SameOrder : {W : Type 0} → (W → W → Side) → Type 0
SameOrder {W} side = (n : ℕ) (ends : List Ends) (links : List (LinkState W)) (batch : List (Change W))
    (places : List ℕ) (moves : List (Move ℕ)) → length ends ≡ length links → Faithful side links batch places moves
    → SamePlan side n ends links batch places moves
