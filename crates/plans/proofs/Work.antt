-- The work of blocks and batches: that fuel does not matter, how it splits, and its bound.
use Rattle.std.proofs.Common.{◌≡◌, ℕ, zero, suc, ◌+◌, ◌*◌, ◌^◌, ◌≤◌, List, [], ◌∷◌, length, take, drop, sym, refl, ap, ◌∙◌, ap₂, inl, inr, add-mul, arith, length-drop, length-take}
use Rattle.std.proofs.lemmas.List.{at_drop_all}
use Rattle.std.proofs.lemmas.Bool.{cases_eq, cases_lt}
use Rattle.graphs.specs.Forest.{Distinct}
use Rattle.graphs.specs.Thin.{Block}
use Rattle.block_records.specs.declared.Move.{Move}
use Rattle.plans.specs.Places.{Scale, Lawful, by_place, moved_by}
use Rattle.plans.specs.Work.{half, thinned_by, thinned_for, block_work_by, batch_work_by, work_by, block_work, batch_work, work, doublings}
use Rattle.plans.proofs.Kept.{small-thinned-by}
use Rattle.plans.proofs.Powers.{doublings-reach}

shares : (a b k l : ℕ) → a + b ≡ k → a * l + b * l ≡ k * l
shares a b k l h = sym (add-mul a b l) ∙ ap (λ (n : ℕ). n * l) h

module _ {V : Type 0} (s : Scale V) where
  pub block-few-by : (f : ℕ) (table : List V) (g : Block) (cs : List (Move V)) → length cs ≤ 1 → block_work_by s f table g cs ≡ length g.links
  unfolding block_work_by
  block-few-by zero table g cs h = refl
  block-few-by (suc f) table g [] h = refl
  block-few-by (suc f) table g (c ∷ []) h = refl
  block-few-by (suc f) table g (c ∷ d ∷ cs) h = omega arith

  -- Any fuel that is at least the number of changes gives the same.
  pub block-fuel-by : (e f : ℕ) (table : List V) (g : Block) (cs : List (Move V)) → length cs ≤ e → length cs ≤ f
      → block_work_by s e table g cs ≡ block_work_by s f table g cs
  unfolding block_work_by
  block-fuel-by zero f table g cs h k = sym (block-few-by f table g cs (omega arith))
  block-fuel-by (suc e) zero table g cs h k = block-few-by (suc e) table g cs (omega arith)
  block-fuel-by (suc e) (suc f) table g [] h k = refl
  block-fuel-by (suc e) (suc f) table g (c ∷ []) h k = refl
  block-fuel-by (suc e) (suc f) table g (c ∷ d ∷ cs) h k =
      let all = c ∷ d ∷ cs in
      let t = thinned_by s table all g in
      let p = length-take (half all) all in
      let q = length-drop (half all) all in
      ap₂ (λ (x y : ℕ). length g.links + (x + y))
      (block-fuel-by e f table t (take (half all) all) (omega arith) (omega arith))
      (block-fuel-by e f (moved_by table (take (half all) all)) t (drop (half all) all) (omega arith) (omega arith))

  -- A batch of no change has no work.
  pub batch-none-by : (f : ℕ) (table : List V) (g : Block) → batch_work_by s f table g [] ≡ 0
  unfolding batch_work_by
  batch-none-by zero table g = refl
  batch-none-by (suc f) table g = refl

  -- Nor has a batch on no links.
  batch-linkless-by : (f : ℕ) (table : List V) (g : Block) (cs : List (Move V)) → length g.links ≡ 0 → batch_work_by s f table g cs ≡ 0
  unfolding batch_work_by
  batch-linkless-by zero table g cs e = refl
  batch-linkless-by (suc f) table g [] e = refl
  batch-linkless-by (suc f) table g (c ∷ cs) e =
      let m = length g.links in
      let top = take m (c ∷ cs) in
      let p = length-take m (c ∷ cs) in
      omega (arith, e, block-few-by (length top) table g top (omega arith), batch-linkless-by f (moved_by table top) g (drop m (c ∷ cs)) e)

  pub batch-fuel-by : (e f : ℕ) (table : List V) (g : Block) (cs : List (Move V)) → length cs ≤ e → length cs ≤ f
      → batch_work_by s e table g cs ≡ batch_work_by s f table g cs
  unfolding batch_work_by
  batch-fuel-by e f table g [] h k = batch-none-by e table g ∙ sym (batch-none-by f table g)
  batch-fuel-by zero f table g (c ∷ cs) h k = omega arith
  batch-fuel-by (suc e) zero table g (c ∷ cs) h k = omega arith
  batch-fuel-by (suc e) (suc f) table g (c ∷ cs) h k =
      let m = length g.links in
      let top = take m (c ∷ cs) in
      let rest = drop m (c ∷ cs) in
      let q = length-drop m (c ∷ cs) in
      ap (λ (x : ℕ). block_work_by s (length top) table g top + x)
      (elim (cases_eq m 0) [
        | inl z ↦ batch-linkless-by e (moved_by table top) g rest z ∙ sym (batch-linkless-by f (moved_by table top) g rest z)
        | inr n ↦ batch-fuel-by e f (moved_by table top) g rest (omega arith) (omega arith)
      ])

  -- The work with fuel enough, as its parts: what a block of two changes or more adds up, and a batch.
  pub block-split-by : (table : List V) (g : Block) (cs : List (Move V)) → 2 ≤ length cs
      → let first = take (half cs) cs in let rest = drop (half cs) cs in let t = thinned_by s table cs g in
      block_work_by s (length cs) table g cs
      ≡ length g.links + (block_work_by s (length first) table t first + block_work_by s (length rest) (moved_by table first) t rest)
  unfolding block_work_by
  block-split-by table g [] h = omega arith
  block-split-by table g (c ∷ []) h = omega arith
  block-split-by table g (c ∷ d ∷ cs) h =
      let all = c ∷ d ∷ cs in
      let t = thinned_by s table all g in
      let first = take (half all) all in
      let rest = drop (half all) all in
      let p = length-take (half all) all in
      let q = length-drop (half all) all in
      ap₂ (λ (x y : ℕ). length g.links + (x + y))
      (block-fuel-by (suc (length cs)) (length first) table t first (omega arith) (omega arith))
      (block-fuel-by (suc (length cs)) (length rest) (moved_by table first) t rest (omega arith) (omega arith))

  pub work-split-by : (table : List V) (g : Block) (cs : List (Move V))
      → let top = take (length g.links) cs in
      1 ≤ length g.links → 1 ≤ length cs
      → work_by s table g cs ≡ block_work_by s (length top) table g top + work_by s (moved_by table top) g (drop (length g.links) cs)
  unfolding batch_work_by
  work-split-by table g [] m h = omega arith
  work-split-by table g (c ∷ cs) m h =
      let top = take (length g.links) (c ∷ cs) in
      let rest = drop (length g.links) (c ∷ cs) in
      let q = length-drop (length g.links) (c ∷ cs) in
      ap (λ (x : ℕ). block_work_by s (length top) table g top + x)
      (batch-fuel-by (length cs) (length rest) (moved_by table top) g rest (omega arith) (omega arith))

-- The bound.
module _ {V : Type 0} (s : Scale V) (lawful : Lawful s) where
  -- A block's work, beyond the links that it receives, is at most 4 for each change and each halving.
  block-bound : (f l : ℕ) (table : List V) (g : Block) (cs : List (Move V)) → Distinct g.links
      → length cs ≤ 2 ^ l → block_work_by s f table g cs ≤ length g.links + 4 * (length cs * l)
  unfolding block_work_by
  block-bound zero l table g cs d h = omega arith
  block-bound (suc f) l table g [] d h = omega arith
  block-bound (suc f) l table g (c ∷ []) d h = omega arith
  block-bound (suc f) zero table g (c ∷ c' ∷ cs) d h = omega arith
  block-bound (suc f) (suc l) table g (c ∷ c' ∷ cs) d h =
      let all = c ∷ c' ∷ cs in
      let t = thinned_by s table all g in
      let u = small-thinned-by s lawful table all g d in
      let p = length-take (half all) all in
      let q = length-drop (half all) all in
      omega (
        arith,
        u.0,
        block-bound f l table t (take (half all) all) u.1 (omega arith),
        block-bound f l (moved_by table (take (half all) all)) t (drop (half all) all) u.1 (omega arith),
        shares (length (take (half all) all)) (length (drop (half all) all)) (length all) l (omega arith),
      )

  module _ (g : Block) (d : Distinct g.links) where
    batch-bound : (f l : ℕ) (table : List V) (cs : List (Move V)) → length g.links ≤ 2 ^ l
        → batch_work_by s f table g cs ≤ length g.links + length cs + 4 * length cs * l
    unfolding batch_work_by
    batch-bound zero l table cs h = omega arith
    batch-bound (suc f) l table [] h = omega arith
    batch-bound (suc f) l table (c ∷ cs) h =
        let m = length g.links in
        let all = c ∷ cs in
        let p = length-take m all in
        let q = length-drop m all in
        let b = block-bound (length (take m all)) l table g (take m all) d (omega arith) in
        let e = shares (length (take m all)) (length (drop m all)) (length all) l (omega arith) in
        let rest = moved_by table (take m all) in
        elim (cases_lt m (length all)) [
          | inl k ↦ omega (arith, b, e, batch-bound f l rest (drop m all) h)
          | inr k ↦ omega (arith, b, e, at_drop_all (batch_work_by s f rest g) all m k, batch-none-by s f rest g)
        ]

    -- Of m links and K changes the work is at most m + K + 4 × K × L, L the least with m ≤ 2 ^ L.
    pub work-bound : (table : List V) (batch : List (Move V))
        → work_by s table g batch ≤ length g.links + length batch + 4 * length batch * doublings (length g.links)
    work-bound table batch =
        batch-bound (length batch) (doublings (length g.links)) table batch (doublings-reach (length g.links))

-- By places.
pub block-few : (f : ℕ) (places : List ℕ) (g : Block) (cs : List (Move ℕ)) → length cs ≤ 1 → block_work f places g cs ≡ length g.links
block-few = block-few-by by_place

pub batch-none : (f : ℕ) (places : List ℕ) (g : Block) → batch_work f places g [] ≡ 0
batch-none = batch-none-by by_place

pub block-split : (places : List ℕ) (g : Block) (cs : List (Move ℕ)) → 2 ≤ length cs
    → let first = take (half cs) cs in let rest = drop (half cs) cs in let t = thinned_for places cs g in
    block_work (length cs) places g cs
    ≡ length g.links + (block_work (length first) places t first + block_work (length rest) (moved_by places first) t rest)
block-split = block-split-by by_place

pub work-split : (places : List ℕ) (g : Block) (cs : List (Move ℕ))
    → let top = take (length g.links) cs in
    1 ≤ length g.links → 1 ≤ length cs
    → work places g cs ≡ block_work (length top) places g top + work (moved_by places top) g (drop (length g.links) cs)
work-split = work-split-by by_place
