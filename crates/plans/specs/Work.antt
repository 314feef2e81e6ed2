-- The work of a batch: the sum, over all blocks, of the links that they receive.
use Rattle.std.specs.Prelude.{ℕ, zero, suc, ◌+◌, ◌/◌, ◌^◌, Bool, false, cond, ◌||◌, List, [], ◌∷◌, length, take, drop, ◌==◌, nat_le}
use Rattle.graphs.specs.Thin.{Block, thinned}
use Rattle.block_records.specs.declared.Move.{Move}
use Rattle.plans.specs.Places.{Scale, before_by, by_place, moved_by}

-- Whether one of the changes names link k.
unfoldable pub named : {V : Type 0} → List (Move V) → ℕ → Bool
named [] k = false
named (c ∷ cs) k = k == c.link || named cs k

-- Half of some changes, rounded up.
abbrev pub half : {V : Type 0} → List (Move V) → ℕ
half cs = (length cs + 1) / 2

-- The graph that both halves of a block receive.
abbrev pub thinned_by : {V : Type 0} → Scale V → List V → List (Move V) → Block → Block
thinned_by s table cs g = thinned (named cs) (before_by s table) g

-- The work of a block and of the blocks that it is split into, at most `fuel` deep: the number of links that it receives and,
-- if it has two changes or more, the work of its first half, rounded up, and of the rest, both on the thinned graph,
-- the rest with the table that the first half leaves.
unfoldable pub block_work_by : {V : Type 0} → Scale V → ℕ → List V → Block → List (Move V) → ℕ
block_work_by s zero table g cs = length g.links
block_work_by s (suc fuel) table g [] = length g.links
block_work_by s (suc fuel) table g (c ∷ []) = length g.links
block_work_by s (suc fuel) table g (c ∷ d ∷ cs) =
    let all = c ∷ d ∷ cs in
    let t = thinned_by s table all g in
    length g.links + (block_work_by s fuel table t (take (half all) all)
    + block_work_by s fuel (moved_by table (take (half all) all)) t (drop (half all) all))

-- The work of a batch, cut in order into top blocks of m changes, m the number of the network's links.
unfoldable pub batch_work_by : {V : Type 0} → Scale V → ℕ → List V → Block → List (Move V) → ℕ
batch_work_by s zero table g cs = 0
batch_work_by s (suc fuel) table g [] = 0
batch_work_by s (suc fuel) table g (c ∷ cs) =
    let m = length g.links in
    let top = take m (c ∷ cs) in
    block_work_by s (length top) table g top + batch_work_by s fuel (moved_by table top) g (drop m (c ∷ cs))

abbrev pub work_by : {V : Type 0} → Scale V → List V → Block → List (Move V) → ℕ
work_by s table g batch = batch_work_by s (length batch) table g batch

-- The same by places.
abbrev pub thinned_for : List ℕ → List (Move ℕ) → Block → Block
thinned_for places cs g = thinned_by by_place places cs g

abbrev pub block_work : ℕ → List ℕ → Block → List (Move ℕ) → ℕ
block_work fuel places g cs = block_work_by by_place fuel places g cs

abbrev pub batch_work : ℕ → List ℕ → Block → List (Move ℕ) → ℕ
batch_work fuel places g cs = batch_work_by by_place fuel places g cs

abbrev pub work : List ℕ → Block → List (Move ℕ) → ℕ
work places g batch = work_by by_place places g batch

-- The least L up to n with m ≤ 2 ^ L, or n.
unfoldable pub least_power : ℕ → ℕ → ℕ
least_power m zero = 0
least_power m (suc n) = cond (nat_le m (2 ^ n)) (least_power m n) (suc n)

-- The least L with m ≤ 2 ^ L.
abbrev pub doublings : ℕ → ℕ
doublings m = least_power m m
