-- What is true of a draw, in the words of its subject: trees, moments and work.
use Rattle.std.specs.Prelude.{◌≡◌, ℕ, suc, ◌+◌, ◌*◌, ◌<◌, ◌≤◌, ◌⊎◌, List, length, get_or, Ok, Err, Result, ◌≢◌, slice_index_or}
use Rattle.faults.specs.declared.DrawFault.{DrawFault}
use Rattle.faults.specs.declared.DrawFault.TheVariants.{NotOpened, ChangeCount, ShortTables, LinkOutside, RemoveAbsent, Parted}
use Rattle.weights.specs.declared.order.Side.{Side}
use Rattle.network.specs.declared.types.Ends.{Ends}
use Rattle.network.specs.declared.types.LinkState.{LinkState}
use Rattle.network.specs.declared.types.Change.{Change}
use Rattle.graphs.specs.Spanning.{AllJoined}
use Rattle.plans.specs.Network.{graph_of, present_links, least_tree, link_of, links_at, plan}
use Rattle.plans.specs.Plan.{replayed, Exchange}
use Rattle.plans.specs.Theorems.{none, LeastPower}
use Rattle.plans.specs.Work.{doublings}
use Rattle.planner.specs.declared.drawn.Drawn.{Drawn}

module _ {W : Type 0} (side : W → W → Side) (n : ℕ) (ends : List Ends) (links : List (LinkState W)) (batch : List (Change W)) where
  -- At moment t the present links join all nodes.
  abbrev pub WholeAt : ℕ → Type 0
  WholeAt t = AllJoined n (present_links (links_at links batch t) (graph_of ends))

  -- A granted draw: at every moment the present links join all nodes, and the start list and the first t entries replayed on it give Kruskal's
  -- greedy tree of the links present at moment t. Each change exchanges at most one link for one other, and an entry other than (0, 0) includes
  -- the link of its change. The work count of k changes on m links is at most m + k + 4 × k × L, L the least with m ≤ 2 ^ L.
  pub record Granted (d : Drawn) : Type 0 where
    pub whole : (t : ℕ) → WholeAt t
    pub trees : (t : ℕ) → replayed (least_tree side ends links) (plan side ends links batch) t ≡ least_tree side ends (links_at links batch t)
    pub one : (t : ℕ) (c : Change W) → t < length batch
        → Exchange (link_of (slice_index_or batch t c)) (least_tree side ends (links_at links batch t)) (least_tree side ends (links_at links batch (suc t)))
    pub names : (t : ℕ) (c : Change W) → t < length batch → (slice_index_or (plan side ends links batch) t none ≢ none)
        → ((get_or (plan side ends links batch) t none).0 ≡ link_of (slice_index_or batch t c)) ⊎ ((get_or (plan side ends links batch) t none).1 ≡ link_of (slice_index_or batch t c))
    pub exponent : LeastPower (length ends) (doublings (length ends))
    pub bound : d.work ≤ length ends + length batch + 4 * length batch * doublings (length ends)

  -- A draw refused at change i since it parts the network: before it the present links join all nodes at every moment, after it they do not.
  pub record Parts (i : ℕ) : Type 0 where
    pub before : (t : ℕ) → t < i → WholeAt t
    pub after : WholeAt i → ⊥

  abbrev pub Truth : Result Drawn DrawFault → Type 0
  Truth (Ok d) = Granted d
  Truth (Err (Parted i)) = Parts i
  Truth (Err (NotOpened f)) = Unit {0}
  Truth (Err ChangeCount) = Unit {0}
  Truth (Err ShortTables) = Unit {0}
  Truth (Err (LinkOutside i)) = Unit {0}
  Truth (Err (RemoveAbsent i)) = Unit {0}
