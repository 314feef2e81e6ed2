-- Worked examples: the four-switch plant, and small networks.
use Rattle.std.specs.Prelude.{◌≡◌, ℕ, true, List, [], ◌∷◌}
use Rattle.weights.specs.declared.order.Side.{Side}
use Rattle.weights.specs.declared.order.Side.TheVariants.{Before}
use Rattle.weights.specs.declared.cost.Cost.{Cost}
use Rattle.weights.specs.declared.class.Class.{Class}
use Rattle.weights.specs.Order.{compared, classed}
use Rattle.network.specs.declared.types.Ends.{Ends}
use Rattle.network.specs.declared.types.LinkState.{LinkState}
use Rattle.network.specs.declared.types.Change.{Change}
use Rattle.network.specs.declared.types.Change.TheVariants.{Set, Remove, Flip}
use Rattle.plans.specs.Network.{least_tree, plan, work_count, parted_at}

-- The order of the cost kind.
abbrev pub cost_side : Cost → Cost → Side
cost_side u v = compared u.0 v.0

abbrev pub between : ℕ → ℕ → Ends
between x y = record { a = record { 0 = x }; b = record { 0 = y } }

abbrev pub cost : ℕ → Cost
cost w = record { 0 = w }

-- A present link of some cost.
abbrev pub present : ℕ → LinkState Cost
present w = record { weight = cost w; present = true }

-- The four-switch plant: a ring of four nodes and one link across, five links in all.
abbrev pub plant_ends : List Ends
plant_ends = between 1 2 ∷ between 2 3 ∷ between 3 4 ∷ between 4 1 ∷ between 1 3 ∷ []

abbrev pub plant_links : List (LinkState Cost)
plant_links = present 5 ∷ present 4 ∷ present 6 ∷ present 7 ∷ present 8 ∷ []

abbrev pub plant_batch : List (Change Cost)
plant_batch = Set 4 (cost 3) ∷ Remove 2 ∷ Set 5 (cost 6) ∷ Flip 2 ∷ Set 1 (cost 9) ∷ []

pub record Worked : Type 0 where
  pub plant-tree : least_tree cost_side plant_ends plant_links ≡ (1 ∷ 2 ∷ 3 ∷ [])
  pub plant-plan : plan cost_side plant_ends plant_links plant_batch ≡ ((3, 4) ∷ (2, 3) ∷ (0, 0) ∷ (3, 2) ∷ (1, 3) ∷ [])
  pub plant-work : work_count cost_side 4 plant_ends plant_links plant_batch ≡ 39
  pub plant-whole : parted_at 4 plant_ends plant_links plant_batch ≡ 0
  -- without links 4 and 3 node 4 is cut off
  pub plant-parted : parted_at 4 plant_ends plant_links (Remove 4 ∷ Remove 3 ∷ []) ≡ 2
  -- one node, no link, no change
  pub alone-tree : least_tree cost_side [] [] ≡ []
  pub alone-work : work_count cost_side 1 [] [] [] ≡ 0
  -- two nodes, one link of 5, which is set to 9
  pub single-plan : plan cost_side (between 1 2 ∷ []) (present 5 ∷ []) (Set 1 (cost 9) ∷ []) ≡ ((0, 0) ∷ [])
  pub single-work : work_count cost_side 2 (between 1 2 ∷ []) (present 5 ∷ []) (Set 1 (cost 9) ∷ []) ≡ 1
  -- two parallel links of 5, of which the first is set to 6
  pub parallel-plan : plan cost_side (between 1 2 ∷ between 1 2 ∷ []) (present 5 ∷ present 5 ∷ []) (Set 1 (cost 6) ∷ []) ≡ ((1, 2) ∷ [])
  pub parallel-work : work_count cost_side 2 (between 1 2 ∷ between 1 2 ∷ []) (present 5 ∷ present 5 ∷ []) (Set 1 (cost 6) ∷ []) ≡ 2
  -- a lower class is before a higher one, whatever the costs
  pub class-first : (u v : Class) → u.class ≡ 0 → u.cost ≡ 900 → v.class ≡ 1 → v.cost ≡ 2 → classed u v ≡ Before
