-- Standings: their order is a lawful scale, and changes of links are moves of them. And the links of an ends list.
use Rattle.std.proofs.Common.{◌≡◌, ℕ, zero, suc, ◌+◌, ◌<◌, ◌≤◌, Bool, true, false, not, ◌&&◌, ◌||◌, eqb, ltb, ◌⊎◌, List, [], ◌∷◌, length, get_or, take, set, Some, None, Option, sym, refl, ap, ◌∙◌, inl, inr, arith}
use lib.ListN.{length-map}
use Rattle.std.proofs.lemmas.Bool.Decides.{nat_tests}
use Rattle.std.proofs.lemmas.Bool.{cases_Bool, both_ways, lt-ltb}
use Rattle.weights.specs.declared.order.Side.{Side}
use Rattle.weights.specs.declared.order.Side.TheVariants.{Before, Level, After}
use Rattle.weights.specs.declared.standing.Standing.{Standing}
use Rattle.weights.specs.declared.standing.Standing.TheVariants.{At, Absent}
use Rattle.weights.specs.Order.{stand}
use Rattle.network.specs.declared.types.Ends.{Ends}
use Rattle.network.specs.declared.types.LinkState.{LinkState}
use Rattle.network.specs.declared.types.Change.{Change}
use Rattle.block_records.specs.declared.Link.{Link}
use Rattle.graphs.specs.Graph.{In}
use Rattle.network.specs.Ends.{no_node, first_end_fault}
use Rattle.graphs.specs.Forest.{Distinct}
use Rattle.graphs.specs.Spanning.{Within}
use Rattle.graphs.proofs.Lists.{in-cons, Sorted, sorted-distinct}
use Rattle.graphs.proofs.Orders.{strict-ltb}
use Rattle.block_records.specs.declared.Move.{Move}
use Rattle.plans.specs.Places.{Lawful, value_of, placed_at, moved, moved_by, table_at}
use Rattle.plans.specs.Network.{Sided, graph_from, is_before, is_level, standing_of, standings, standing_at, by_standing, link_of, altered, altered_link, changed_link, changed, changed_by, links_at, move_of, moves_of}

-- The three sides, told apart.
cases-side : (x : Side) → (x ≡ Before) ⊎ (x ≡ Level) ⊎ (x ≡ After)
cases-side Before = inl refl
cases-side Level = inr (inl refl)
cases-side After = inr (inr refl)

is-before : (x : Side) → is_before x ≡ true → x ≡ Before
is-before Before h = refl
is-before Level h = absurd (both_ways false refl h)
is-before After h = absurd (both_ways false refl h)

not-before : (x : Side) → is_before x ≡ false → x ≡ Before → ⊥
not-before x h e = both_ways (is_before x) h (ap is_before e)

level_before : Level ≡ Before → ⊥
level_before e = both_ways false refl (ap is_before e)

after-before : After ≡ Before → ⊥
after-before e = both_ways false refl (ap is_before e)

level-after : Level ≡ After → ⊥
level-after e = both_ways false refl (sym (ap is_level e))

before-after : Before ≡ After → ⊥
before-after e = after-before (sym e)

-- The order of standings keeps to the laws.
pub sided-stand : {W : Type 0} (side : W → W → Side) → Sided side → Sided (stand side)
sided-stand {W} side o = record { level = level; mirrored = mirrored; back = back; passes = passes }
  where
    level : (u : Standing W) → stand side u u ≡ Level
    level (At u) = o.level u
    level Absent = refl

    mirrored : (u v : Standing W) → stand side u v ≡ Before → stand side v u ≡ After
    mirrored (At u) (At v) h = o.mirrored u v h
    mirrored (At u) Absent h = refl
    mirrored Absent (At v) h = absurd (after-before h)
    mirrored Absent Absent h = absurd (level_before h)

    back : (u v : Standing W) → stand side v u ≡ After → stand side u v ≡ Before
    back (At u) (At v) h = o.back u v h
    back (At u) Absent h = refl
    back Absent (At v) h = absurd (before-after h)
    back Absent Absent h = absurd (level-after h)

    passes : (u v w : Standing W) → (stand side u v ≡ After → ⊥) → (stand side v w ≡ After → ⊥) → stand side u w ≡ After → ⊥
    passes (At u) (At v) (At w) h k e = o.passes u v w h k e
    passes (At u) Absent (At w) h k e = k refl
    passes Absent (At v) (At w) h k e = h refl
    passes Absent Absent (At w) h k e = k refl
    passes (At u) (At v) Absent h k e = before-after e
    passes (At u) Absent Absent h k e = before-after e
    passes Absent (At v) Absent h k e = h refl
    passes Absent Absent Absent h k e = level-after e

pub lawful-standing : {W : Type 0} (side : W → W → Side) → Sided side → Lawful (by_standing side)
lawful-standing {W} side o = record { opposed = opposed; between = between; tied = tied }
  where
    t : Sided (stand side)
    t = sided-stand side o

    opposed : (u v : Standing W) → is_before (stand side u v) ≡ true → is_before (stand side v u) ≡ false
    opposed u v h = ap is_before (t.mirrored u v (is-before (stand side u v) h))

    tied : (u v : Standing W) → is_level (stand side u v) ≡ (not (is_before (stand side u v)) && not (is_before (stand side v u)))
    tied u v =
        elim (cases-side (stand side u v)) [
          | inl e ↦ rw e
          | inr (inl e) ↦ elim (cases-side (stand side v u)) [
            | inl f ↦ absurd (level-after (sym e ∙ t.mirrored v u f))
            | inr (inl f) ↦ rw (e, f)
            | inr (inr f) ↦ rw (e, f)
          ]
          | inr (inr e) ↦ rw (e, t.back v u e)
        ]

    between : (u v w : Standing W) → is_before (stand side u w) ≡ true → (is_before (stand side u v) || is_before (stand side v w)) ≡ true
    between u v w h =
        let e = t.mirrored u w (is-before (stand side u w) h) in
        elim (both (is_before (stand side u v)) (is_before (stand side v w))) [
          | inl y ↦ y
          | inr n ↦ absurd (t.passes w v u (λ f. not-before _ n.1 (t.back v w f)) (λ f. not-before _ n.0 (t.back u v f)) e)
        ]
      where
        both : (x y : Bool) → ((x || y) ≡ true) ⊎ ((x ≡ false) × (y ≡ false))
        both true y = inl refl
        both false true = inl refl
        both false false = inr (refl, refl)

-- The links of an ends list are numbered in turn.
pub graph-length : (k : ℕ) (ends : List Ends) → length (graph_from k ends) ≡ length ends
unfolding graph_from
graph-length k [] = refl
graph-length k (e ∷ ends) = ap suc (graph-length (suc k) ends)

pub graph-numbers : (k : ℕ) (ends : List Ends) (e : Link) → In e (graph_from k ends) → (k ≤ e.number) × (e.number < k + length ends)
unfolding graph_from
graph-numbers k [] e i = elim i [ ]
graph-numbers k (x ∷ ends) e i =
    in-cons (λ e. (k ≤ e.number) × (e.number < k + suc (length ends))) i (omega arith, omega arith)
    (λ j. let r = graph-numbers (suc k) ends e j in (omega (arith, r.0), omega (arith, r.1)))

pub graph-sorted : (k : ℕ) (ends : List Ends) → Sorted ltb (graph_from k ends)
unfolding graph_from
graph-sorted k [] = tt
graph-sorted k (x ∷ ends) = (λ f i. let r = graph-numbers (suc k) ends f i in lt-ltb k f.number (omega (arith, r.0)), graph-sorted (suc k) ends)

pub graph-distinct : (k : ℕ) (ends : List Ends) → Distinct (graph_from k ends)
graph-distinct k ends = sorted-distinct ltb strict-ltb (graph_from k ends) (graph-sorted k ends)

-- A change is a move of standings.
pub standings-length : {W : Type 0} (links : List (LinkState W)) → length (standings links) ≡ length links
standings-length {W} links = length-map links (λ (l : LinkState W). standing_of l)

-- How a link stands, read off its entry.
pub standing-at : {W : Type 0} (links : List (LinkState W)) (k : ℕ) (d : LinkState W) → k < length links
    → standing_at links (suc k) ≡ standing_of (get_or links k d)
unfolding value_of
standing-at [] k d h = absurd (omega arith)
standing-at (l ∷ links) zero d h = refl
standing-at (l ∷ links) (suc k) d h = standing-at links k d (omega arith)

-- An entry altered, as an entry set.
pub altered-set : {A : Type 0} (f : A → A) (xs : List A) (k : ℕ) (d : A) → k < length xs → altered f xs k ≡ set xs k (f (get_or xs k d))
unfolding altered
altered-set f [] k d h = absurd (omega arith)
altered-set f (x ∷ xs) zero d h = refl
altered-set {A} f (x ∷ xs) (suc k) d h = ap (λ (l : List A). x ∷ l) (altered-set f xs k d (omega arith))

standings-set : {W : Type 0} (f : LinkState W → LinkState W) (links : List (LinkState W)) (k : ℕ)
    → standings (altered f links k) ≡ set (standings links) k (get_or (standings (altered f links k)) k Absent)
unfolding altered
standings-set f [] k = refl
standings-set f (l ∷ links) zero = refl
standings-set {W} f (l ∷ links) (suc k) = ap (λ (t : List (Standing W)). standing_of l ∷ t) (standings-set f links k)

standings-altered : {W : Type 0} (f : LinkState W → LinkState W) (links : List (LinkState W)) (k : ℕ)
    → standings (altered_link f links k) ≡ placed_at (standings links) k (standing_at (altered_link f links k) k)
unfolding altered_link value_of placed_at
standings-altered f links zero = refl
standings-altered f links (suc k) = standings-set f links k

pub standings-changed : {W : Type 0} (links : List (LinkState W)) (c : Change W) → standings (changed links c) ≡ moved (standings links) (move_of links c)
standings-changed links c = standings-altered (changed_link c) links (link_of c)

pub standings-moved : {W : Type 0} (links : List (LinkState W)) (batch : List (Change W))
    → standings (changed_by links batch) ≡ moved_by (standings links) (moves_of links batch)
unfolding changed_by moved_by moves_of
standings-moved links [] = refl
standings-moved {W} links (c ∷ cs) =
    standings-moved (changed links c) cs
    ∙ ap (λ (t : List (Standing W)). moved_by t (moves_of (changed links c) cs)) (standings-changed links c)

moves-take : {W : Type 0} (links : List (LinkState W)) (batch : List (Change W)) (t : ℕ) → take t (moves_of links batch) ≡ moves_of links (take t batch)
unfolding moves_of
moves-take links batch zero = refl
moves-take links [] (suc t) = refl
moves-take {W} links (c ∷ cs) (suc t) = ap (λ (l : List (Move (Standing W))). move_of links c ∷ l) (moves-take (changed links c) cs t)

-- The standings at moment t are those of the links then.
pub standings-then : {W : Type 0} (links : List (LinkState W)) (batch : List (Change W)) (t : ℕ)
    → table_at (standings links) (moves_of links batch) t ≡ standings (links_at links batch t)
standings-then {W} links batch t =
    ap (λ (l : List (Move (Standing W))). moved_by (standings links) l) (moves-take links batch t) ∙ sym (standings-moved links (take t batch))

pub moves-length : {W : Type 0} (links : List (LinkState W)) (batch : List (Change W)) → length (moves_of links batch) ≡ length batch
unfolding moves_of
moves-length links [] = refl
moves-length links (c ∷ cs) = ap suc (moves-length (changed links c) cs)

pub moves-link : {W : Type 0} (links : List (LinkState W)) (batch : List (Change W)) (t : ℕ) (m : Move (Standing W)) (c : Change W)
    → t < length batch → (get_or (moves_of links batch) t m).link ≡ link_of (get_or batch t c)
unfolding moves_of
moves-link links [] t m d h = omega arith
moves-link links (c ∷ cs) zero m d h = refl
moves-link links (c ∷ cs) (suc t) m d h = moves-link (changed links c) cs t m d (omega arith)

some-none : {X : Type 0} {x : X} → Some x ≡ None → ⊥
some-none {X} {x} e = both_ways false refl (sym (ap is_some e))
  where
    is_some : Option X → Bool
    is_some (Some x) = true
    is_some None = false

-- An ends list without fault has its links between the nodes 1 to n.
fault-first : (n k : ℕ) (e : Ends) (es : List Ends) → first_end_fault n k (e ∷ es) ≡ None
    → ((no_node n e.a ≡ false) × (no_node n e.b ≡ false)) × (first_end_fault n (k + 1) es ≡ None)
fault-first n k e es h =
    elim (cases_Bool (no_node n e.a)) [
      | inl p ↦ absurd (some-none (rw p at h))
      | inr p ↦ elim (cases_Bool (no_node n e.b)) [
        | inl q ↦ absurd (some-none (rw (p, q) at h))
        | inr q ↦ elim (cases_Bool (eqb e.a.0 e.b.0)) [
          | inl r ↦ absurd (some-none (rw (p, q, r) at h))
          | inr r ↦ ((p, q), rw (p, q, r) at h)
        ]
      ]
    ]

pub faultless-within : (n k : ℕ) (ends : List Ends) → first_end_fault n k ends ≡ None → Within n (graph_from k ends)
unfolding graph_from
faultless-within n k [] h e i = elim i [ ]
faultless-within n k (x ∷ ends) h e i =
    let r = fault-first n k x ends h in
    in-cons (λ e. (1 ≤ e.a.0) × (e.a.0 ≤ n) × (1 ≤ e.b.0) × (e.b.0 ≤ n)) i
    (let p = r.0.0 in let q = r.0.1 in (grind (arith, nat_tests), grind (arith, nat_tests), grind (arith, nat_tests), grind (arith, nat_tests)))
    (faultless-within n (suc k) ends (let q : k + 1 ≡ suc k = omega arith in rw q at r.1) e)
