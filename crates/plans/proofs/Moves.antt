-- A move changes the order of one link only; what it exchanges; a plan replayed.
use Rattle.std.proofs.Common.{◌≡◌, ℕ, zero, suc, ◌<◌, ◌≤◌, false, ◌≢◌, ◌⊎◌, ◌↔◌, List, [], ◌∷◌, length, get_or, take, refl, ap, ◌∙◌, inl, inr, arith}
use Rattle.std.proofs.lemmas.List.{get_or-set_other}
use Rattle.std.proofs.lemmas.Bool.{cases_Bool, eqb-false}
use Rattle.block_records.specs.declared.Link.{Link}
use Rattle.graphs.specs.Graph.{In}
use Rattle.graphs.specs.Forest.{Distinct}
use Rattle.graphs.proofs.Kruskal.{forest-sub, forest-distinct}
use Rattle.graphs.proofs.Change.{one-change}
use Rattle.block_records.specs.declared.Move.{Move}
use Rattle.plans.specs.Places.{Scale, Lawful, value_of, before_by, place_of, placed_at, moved, moved_by, table_at}
use Rattle.plans.specs.Plan.{forest_by, tree_by, among, Exchange, Ascending, Entry, entry, entries_by, exchanged, exchanged_by, replayed}
use Rattle.plans.proofs.Orders.{strict-by}
use Rattle.plans.proofs.Numbers.{numbers-in, ascending-numbers}
use Rattle.plans.proofs.Exchange.{none-comes, one-exchange}
use Rattle.plans.proofs.Replay.{replay-one, entry-names}

pub valued-other : {V : Type 0} (none : V) (table : List V) (z : ℕ) (v : V) (k : ℕ) → k ≢ z → value_of none (placed_at table z v) k ≡ value_of none table k
unfolding value_of placed_at
valued-other none table zero v k n = refl
valued-other none table (suc z) v zero n = refl
valued-other none table (suc z) v (suc k) n = get_or-set_other table z k v none (λ e. n (ap suc e))

pub placed-other : (places : List ℕ) (z p k : ℕ) → k ≢ z → place_of (placed_at places z p) k ≡ place_of places k
placed-other places = valued-other 0 places

-- A move keeps the order of all other links.
pub moved-agree : {V : Type 0} (s : Scale V) (table : List V) (c : Move V) (j k : ℕ) → j ≢ c.link → k ≢ c.link
    → before_by s table j k ≡ before_by s (moved table c) j k
moved-agree s table c j k n m =
    let p = valued-other s.none table c.link c.to j n in
    let q = valued-other s.none table c.link c.to k m in
    rw (p, q)

module _ {V : Type 0} (s : Scale V) (l : Lawful s) (es : List Link) (d : Distinct es) where
  -- A move exchanges at most one link of the least forest for one other, and one of the two is its own.
  pub move-exchanges : (table : List V) (c : Move V) → Exchange c.link (tree_by s table es) (tree_by s (moved table c) es)
  move-exchanges table c =
      one-exchange c.link (forest_by s table es) (forest_by s (moved table c) es)
      (one-change c.link (strict-by s l table) (strict-by s l (moved table c))
      (record { same = λ j k p q. moved-agree s table c j k (eqb-false j c.link p) (eqb-false k c.link q) })
      (record { distinct = d }))

  pub tree-ascending : (table : List V) → Ascending (tree_by s table es)
  tree-ascending table = ascending-numbers (forest_by s table es) (forest-distinct (before_by s table) (strict-by s l table) es d)

  module _ (numbered : (e : Link) → In e es → 1 ≤ e.number) where
    pub tree-numbered : (table : List V) → among 0 (tree_by s table es) ≡ false
    tree-numbered table =
        elim (cases_Bool (among 0 (tree_by s table es))) [
          | inr h ↦ h
          | inl h ↦
              let r = numbers-in 0 (forest_by s table es) h in
              absurd (let p = numbered r.0 (forest-sub (before_by s table) es r.0 r.1) in omega (arith, r.2))
        ]

    -- An entry replayed on the tree before its move gives the tree after it.
    pub move-replayed : (table : List V) (c : Move V)
        → exchanged (tree_by s table es) (entry (tree_by s table es) (tree_by s (moved table c) es)) ≡ tree_by s (moved table c) es
    move-replayed table c =
        replay-one (tree_by s table es) (tree_by s (moved table c) es) (tree-ascending table) (tree-ascending (moved table c))
        (tree-numbered table) (tree-numbered (moved table c)) c.link (move-exchanges table c)

    -- A plan replayed for t moves gives the tree at moment t.
    pub plan-replayed : (table : List V) (batch : List (Move V)) (t : ℕ)
        → replayed (tree_by s table es) (entries_by s table es batch) t ≡ tree_by s (table_at table batch t) es
    unfolding moved_by entries_by exchanged_by
    plan-replayed table batch zero = refl
    plan-replayed table [] (suc t) = refl
    plan-replayed table (c ∷ cs) (suc t) =
        ap (λ (T : List ℕ). exchanged_by T (take t (entries_by s (moved table c) es cs))) (move-replayed table c)
        ∙ plan-replayed (moved table c) cs t

    -- Entry t + 1 is between moments t and t + 1; if it is not (0, 0), it names the link of its move.
    pub entry_at : (table : List V) (batch : List (Move V)) (t : ℕ) (none : Entry) → t < length batch
        → get_or (entries_by s table es batch) t none ≡ entry (tree_by s (table_at table batch t) es) (tree_by s (table_at table batch (suc t)) es)
    unfolding moved_by entries_by
    entry_at table [] t none h = absurd (omega arith)
    entry_at table (c ∷ cs) zero none h = refl
    entry_at table (c ∷ cs) (suc t) none h = entry_at (moved table c) cs t none (omega arith)

    pub plan-names : (table : List V) (batch : List (Move V)) (t : ℕ) (none : Entry) (move : Move V) → t < length batch
        → (get_or (entries_by s table es batch) t none ≡ (0, 0) → ⊥)
        → ((get_or (entries_by s table es batch) t none).0 ≡ (get_or batch t move).link)
        ⊎ ((get_or (entries_by s table es batch) t none).1 ≡ (get_or batch t move).link)
    unfolding entries_by
    plan-names table [] t none move h = absurd (omega arith)
    plan-names table (c ∷ cs) zero none move h =
        entry-names (tree_by s table es) (tree_by s (moved table c) es) (tree-ascending table) (tree-ascending (moved table c))
        (tree-numbered table) (tree-numbered (moved table c)) c.link (move-exchanges table c)
    plan-names table (c ∷ cs) (suc t) none move h = plan-names (moved table c) cs t none move (omega arith)

    -- An entry has both numbers or none.
    pub entry-pairs : (old new : List V)
        → ((entry (tree_by s old es) (tree_by s new es)).0 ≡ 0) ↔ ((entry (tree_by s old es) (tree_by s new es)).1 ≡ 0)
    entry-pairs old new = (
      none-comes (before_by s old) (before_by s new) (strict-by s l old) (strict-by s l new) es d (tree-numbered old),
      none-comes (before_by s new) (before_by s old) (strict-by s l new) (strict-by s l old) es d (tree-numbered new),
    )

    pub plan-pairs : (table : List V) (batch : List (Move V)) (t : ℕ) (none : Entry) → t < length batch
        → ((get_or (entries_by s table es batch) t none).0 ≡ 0) ↔ ((get_or (entries_by s table es batch) t none).1 ≡ 0)
    plan-pairs table batch t none h =
        rw (entry_at table batch t none h) (entry-pairs (table_at table batch t) (table_at table batch (suc t)))

pub entries-length : {V : Type 0} (s : Scale V) (es : List Link) (table : List V) (batch : List (Move V)) → length (entries_by s table es batch) ≡ length batch
unfolding entries_by
entries-length s es table [] = refl
entries-length s es table (c ∷ cs) = ap suc (entries-length s es (moved table c) cs)

-- The table at the next moment.
pub table-next : {V : Type 0} (table : List V) (batch : List (Move V)) (t : ℕ) (move : Move V) → t < length batch
    → table_at table batch (suc t) ≡ moved (table_at table batch t) (get_or batch t move)
unfolding moved_by
table-next table [] t move h = absurd (omega arith)
table-next table (c ∷ cs) zero move h = refl
table-next table (c ∷ cs) (suc t) move h = table-next (moved table c) cs t move (omega arith)
