-- Places that are faithful to standings give the same plan.
use Rattle.std.proofs.Common.{◌≡◌, ℕ, ◌<◌, eqb, ltb, leb, List, map, length, get_or, sym, refl, ap, ◌∙◌, inl, inr, arith}
use lib.ListN.{length-map}
use Rattle.std.proofs.lemmas.List.{length-append}
use Rattle.std.proofs.lemmas.Bool.{cases_Bool}
use Rattle.std.proofs.lemmas.Bool.Decides.{nat_tests}
use Rattle.weights.specs.declared.order.Side.{Side}
use Rattle.weights.specs.declared.standing.Standing.{Standing}
use Rattle.weights.specs.declared.standing.Standing.TheVariants.{Absent}
use Rattle.weights.specs.Order.{compared}
use Rattle.block_records.specs.declared.Move.{Move}
use Rattle.plans.specs.Places.{by_place}
use Rattle.plans.specs.Network.{is_before, is_level, is_absent, standings, by_standing, graph_of, moves_of}
use Rattle.plans.specs.Same.{pool}
use Rattle.plans.specs.Theorems.{SameOrder}
use Rattle.plans.proofs.Standings.{graph-numbers, standings-length}
use Rattle.plans.proofs.Same.{Known, Alike, match-from, match-parts, match-moves, tree-same, entries-same, torn-same, tear-same, work-same}

-- How two places stand to each other, as tests.
pub compared-before : (a b : ℕ) → ltb a b ≡ is_before (compared a b)
compared-before a b =
    elim (cases_Bool (ltb a b)) [
      | inl h ↦ rw h
      | inr h ↦ elim (cases_Bool (eqb a b)) [ inl k ↦ rw (h, k) | inr k ↦ rw (h, k) ]
    ]

pub compared-level : (a b : ℕ) → eqb a b ≡ is_level (compared a b)
compared-level a b =
    elim (cases_Bool (ltb a b)) [
      | inl h ↦ rw h (grind (arith, nat_tests))
      | inr h ↦ elim (cases_Bool (eqb a b)) [ inl k ↦ rw (h, k) | inr k ↦ rw (h, k) ]
    ]

-- A place and a standing at one position of the two pools.
record Paired {V : Type 0} (ps : List ℕ) (qs : List V) (none : V) (x : ℕ) (y : V) : Type 0 where
  index : ℕ
  below : index < length ps
  left : x ≡ get_or ps index 0
  right : y ≡ get_or qs index none

pub same-order : {W : Type 0} (side : W → W → Side) → SameOrder side
same-order {W} side n ends links batch places moves many f =
    let ps = pool places moves in
    let qs = pool (standings links) (moves_of links batch) in
    let R : ℕ → Standing W → Type 0 = λ x y. Paired ps qs Absent x y in
    let both = match-parts {R = R} places (standings links) (f.many ∙ sym (standings-length links))
    (match-from ps qs 0 Absent long (λ k h. record { index = k; below = h; left = refl; right = refl })) in
    let cs = match-moves moves (moves_of links batch) f.names both.1 in
    let known : Known (length places) (graph_of ends) = λ e i. let r = graph-numbers 1 ends e i in (r.0, omega (arith, r.1, many, f.many)) in
    record {
      tree = tree-same by_place (by_standing side) alike (length places) places (standings links) both.0 refl (graph_of ends) known;
      plan = entries-same by_place (by_standing side) alike (length places) places (standings links) both.0 refl (graph_of ends) known cs;
      work = work-same by_place (by_standing side) alike (length places) places (standings links) both.0 refl
          (record { nodes = n; links = graph_of ends }) known moves (moves_of links batch) cs;
      start = λ absent a. torn-same by_place (by_standing side) alike (length places) (λ p. leb absent p) (λ u. is_absent u)
          (λ x y r. rw (r.left, r.right) (a r.index r.below))
          places (standings links) both.0 refl (graph_of ends) known;
      tear = λ absent a. tear-same by_place (by_standing side) alike (length places) (λ p. leb absent p) (λ u. is_absent u)
          (λ x y r. rw (r.left, r.right) (a r.index r.below))
          places (standings links) both.0 refl (graph_of ends) known cs;
    }
  where
    long : length (pool places moves) ≡ length (pool (standings links) (moves_of links batch))
    long =
        omega (
          arith,
          f.many,
          standings-length links,
          length-append places (map (λ (c : Move ℕ). c.to) moves),
          length-append (standings links) (map (λ (c : Move (Standing W)). c.to) (moves_of links batch)),
          length-map moves (λ (c : Move ℕ). c.to),
          length-map (moves_of links batch) (λ (c : Move (Standing W)). c.to),
          length-map moves (λ (c : Move ℕ). c.link),
          length-map (moves_of links batch) (λ (c : Move (Standing W)). c.link),
          ap (λ (l : List ℕ). length l) f.names,
        )

    alike : Alike by_place (by_standing side) (Paired (pool places moves) (pool (standings links) (moves_of links batch)) Absent)
    alike = record {
      ahead = λ x y x' y' p q. rw (p.left, q.left, p.right, q.right)
          (compared-before (get_or (pool places moves) p.index 0) (get_or (pool places moves) q.index 0)
          ∙ ap is_before (f.same p.index q.index p.below q.below));
      level = λ x y x' y' p q. rw (p.left, q.left, p.right, q.right)
          (compared-level (get_or (pool places moves) p.index 0) (get_or (pool places moves) q.index 0)
          ∙ ap is_level (f.same p.index q.index p.below q.below));
    }
