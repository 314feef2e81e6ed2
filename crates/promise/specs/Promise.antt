-- The promise: what holds of an installation after every sequence of calls, granted and refused.
use Rattle.std.specs.Prelude.{◌≡◌, ℕ, ◌+◌, ◌*◌, ◌<◌, ◌≤◌, Bool, true, ◌⊎◌, List, length, Some, ◌≢◌, slice_index_or}
use Rattle.weights.specs.declared.order.Side.{Side}
use Rattle.network.specs.declared.types.Ends.{Ends}
use Rattle.network.specs.declared.types.Change.{Change}
use Rattle.block_records.specs.declared.Link.{Link}
use Rattle.graphs.specs.Graph.{In}
use Rattle.graphs.specs.Forest.{filtered, uptos, LoopFree}
use Rattle.graphs.specs.Spanning.{SpanningTree}
use Rattle.plans.specs.Network.{graph_of, present_links, link_before, link_of, work_count}
use Rattle.plans.specs.Theorems.{LeastPower}
use Rattle.fabrics.specs.Meaning.{carries}
use Rattle.player.specs.declared.states.Steady.{Steady}
use Rattle.player.specs.Plan.{entry}
use Rattle.promise.specs.Undo.{Exchanged}
use Rattle.promise.specs.Installation.{Network, DrawnPlan, moment, steady, Installation}
use Rattle.promise.specs.Calls.{One, Reached}

-- The links of a network that are present, and those that carry.
abbrev pub present : {W : Type 0} → Network W → List Link
present g = present_links g.links (graph_of g.ends)

abbrev pub carried : List Ends → List Bool → List Link
carried ends c = filtered (λ e. carries c e.number) (graph_of ends)

-- The carrying links are a spanning tree of the links present, and for each link z present every spanning tree of these has at most
-- as many links ordered up to z.
pub record CarriesLeastTree {W : Type 0} (side : W → W → Side) (g : Network W) (c : List Bool) : Type 0 where
  pub size : length c ≡ length g.ends
  pub tree : SpanningTree g.n (present g) (carried g.ends c)
  pub least : (z : Link) → In z (present g) → (other : List Link) → SpanningTree g.n (present g) other
      → length (uptos (link_before side g.links) z other) ≤ length (uptos (link_before side g.links) z (carried g.ends c))

module _ {W F : Type 0} (side : W → W → Side) (carrying : F → List Bool) where
  pub record Stands (i : Installation W F) : Type 0 where
    -- Steady after t changes, the carrying links are the least tree of that moment; and the player counts t itself.
    pub steady-tree : (p : Steady) (t : ℕ) (d : DrawnPlan W) → i.player ≡ steady p t d → CarriesLeastTree side (moment d t) (carrying i.fabric)
    pub steady-count : (p : Steady) (t : ℕ) (d : DrawnPlan W) → i.player ≡ steady p t d → (p.t ≡ t) × (t ≤ length d.batch)
    -- From the first granted lay on the carrying links hold no loop.
    pub no_loop : i.laid ≡ true → (g : Network W) × (i.book ≡ Some g) × LoopFree (carried g.ends (carrying i.fabric))
    -- A drawn entry other than (0, 0) includes the link that its change names.
    pub entry-names : (d : DrawnPlan W) → One d i.drawn → (t : ℕ) (c : Change W) → t < length d.batch → (entry d.sheet t ≢ (0, 0))
        → ((entry d.sheet t).0 ≡ link_of (slice_index_or d.batch t c)) ⊎ ((entry d.sheet t).1 ≡ link_of (slice_index_or d.batch t c))
    -- A granted draw of K changes on m links told the work count, at most m + K + 4 × K × L with L least such that 2 ^ L is at least m.
    pub work-count : (d : DrawnPlan W) → One d i.drawn → d.work ≡ work_count side d.found.n d.found.ends d.found.links d.batch
    pub work-bound : (d : DrawnPlan W) → One d i.drawn → (l : ℕ) → LeastPower (length d.found.ends) l
        → d.work ≤ length d.found.ends + length d.batch + 4 * length d.batch * l

  -- This holds of every installation that calls bring about; and where one is steady after t changes of a drawn plan and one after
  -- t + 1 changes of it, what they carry differs by exactly entry t + 1: its one link out and its one link in, 0 standing for none.
  pub record NeverBroken : Type 0 where
    pub stands : (i : Installation W F) → Reached side carrying i → Stands i
    pub differs : (i j : Installation W F) → Reached side carrying i → Reached side carrying j → (p q : Steady) (t : ℕ) (d : DrawnPlan W)
        → i.player ≡ steady p t d → j.player ≡ steady q (t + 1) d
        → Exchanged (entry d.sheet t).0 (entry d.sheet t).1 (carrying i.fabric) (carrying j.fabric)
