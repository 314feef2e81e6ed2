-- A thinned graph has at most as many links that are not named as links that are.
use Rattle.std.proofs.Common.{◌≡◌, ℕ, suc, ◌+◌, ◌*◌, ◌≤◌, Bool, false, not, ◌||◌, eqb, List, [], ◌∷◌, ◌++◌, length, sym, refl, ap, ◌∙◌, inl, inr, arith}
use Rattle.std.proofs.lemmas.Bool.{eqb-true, cases_Bool, both_ways, not-true, not_from_false}
use Rattle.block_records.specs.declared.Link.{Link}
use Rattle.graphs.specs.Graph.{In, here, later, Walk}
use Rattle.graphs.specs.Forest.{Strict, Distinct, placed, ordered, greedy, forest, filtered}
use Rattle.graphs.specs.Thin.{Block, holds, either, reduced, named_first, mergeable, relabel, contracted, thinned}
use Rattle.graphs.specs.Thinning.{chosen, rest, merges}
use Rattle.graphs.proofs.Joined.{walk-mono}
use Rattle.graphs.proofs.Lists.{in-sift, filtered-distinct}
use Rattle.graphs.proofs.Orders.{strict-named}
use Rattle.graphs.proofs.Walks.{in_left, in_right, sifted, Apart, filtered-apart}
use Rattle.graphs.proofs.Kruskal.{forest-loopfree}
use Rattle.graphs.proofs.Spanning.{spans}
use Rattle.graphs.proofs.Rank.{free-rank, free_part}
use Rattle.graphs.proofs.Rename.{in-relabel, length-relabel, filtered-relabel, walk-relabel}
use Rattle.graphs.proofs.Reduce.{in-reduced, reduced-apart}
use Rattle.graphs.proofs.Thinned.{thinned-links, moved_apart}

-- How many links of a list pass a test.

module _ (p : Link → Bool) where
  filtered-count : (q : Link → Bool) (es : List Link) → length (filtered p (filtered q es)) ≤ length (filtered p es)
  unfolding filtered
  filtered-count q [] = omega arith
  filtered-count q (e ∷ es) = let r = filtered-count q es in grind arith

  filtered-parts : (es : List Link) → length es ≡ length (filtered p es) + length (filtered (λ e. not (p e)) es)
  unfolding filtered
  filtered-parts [] = refl
  filtered-parts (e ∷ es) = let r = filtered-parts es in grind arith

  filtered-either : (q : Link → Bool) (es : List Link) → length (filtered (λ e. p e || q e) es) ≤ length (filtered p es) + length (filtered q es)
  unfolding filtered
  filtered-either q [] = omega arith
  filtered-either q (e ∷ es) = let r = filtered-either q es in grind arith

  greedy-count : (os es : List Link) → length (filtered p (greedy os es)) ≤ length (filtered p es)
  unfolding filtered greedy
  greedy-count os [] = omega arith
  greedy-count os (e ∷ es) = let r = greedy-count os es in let t = greedy-count (e ∷ os) es in grind arith

  placed-count : (lt : ℕ → ℕ → Bool) (e : Link) (es : List Link) → length (filtered p (placed lt e es)) ≡ length (filtered p (e ∷ es))
  unfolding filtered placed
  placed-count lt e [] = refl
  placed-count lt e (f ∷ fs) = let r = placed-count lt e fs in grind arith

  ordered-count : (lt : ℕ → ℕ → Bool) (es : List Link) → length (filtered p (ordered lt es)) ≡ length (filtered p es)
  unfolding filtered ordered
  ordered-count lt [] = refl
  ordered-count lt (e ∷ es) = let t = placed-count lt e (ordered lt es) in let r = ordered-count lt es in grind arith

  forest-count : (lt : ℕ → ℕ → Bool) (es : List Link) → length (filtered p (forest lt es)) ≤ length (filtered p es)
  forest-count lt es = omega (arith, greedy-count [] (ordered lt es), ordered-count lt es)

one_number : (es : List Link) → Distinct es → ((e f : Link) → In e es → In f es → e.number ≡ f.number) → length es ≤ 1
one_number [] d h = omega arith
one_number (e ∷ []) d h = omega arith
one_number (e ∷ f ∷ es) d h = absurd (d.0 f here (h e f here (later here)))

-- How many links are named: none, one, or one more.

pub chosen_none : (es : List Link) → length (chosen (λ _. false) es) ≡ 0
unfolding filtered
chosen_none [] = refl
chosen_none (e ∷ es) = chosen_none es

pub chosen-one : (c : ℕ) (es : List Link) → Distinct es → length (chosen (λ k. eqb k c) es) ≤ 1
chosen-one c es d =
    one_number (chosen (λ k. eqb k c) es) (filtered-distinct (λ e. eqb e.number c) es d) (λ e f i j.
    eqb-true _ _ (sifted _ es i).1 ∙ sym (eqb-true _ _ (sifted _ es j).1))

pub chosen_more : (c : ℕ) (named : ℕ → Bool) (es : List Link) → Distinct es
    → length (chosen (λ k. eqb k c || named k) es) ≤ suc (length (chosen named es))
chosen_more c named es d = omega (arith, filtered-either (λ e. eqb e.number c) (λ e. named e.number) es, chosen-one c es d)

module _ (named : ℕ → Bool) (lt : ℕ → ℕ → Bool) (g : Block) (s : Strict lt) (d : Apart g.links) where
  -- The ends of each reduced link are joined by the merged links and the named links of the least forest, named links first.
  pub spanned : {e : Link} → In e (reduced named lt g.links)
      → Walk (chosen named (forest (named_first named lt) (reduced named lt g.links)) ++ merges named lt g) e.a.0 e.b.0
  unfolding mergeable
  spanned i =
      let fs = forest (named_first named lt) (reduced named lt g.links) in
      walk-mono (λ f j.
      let q = sifted _ fs j in
      elim (cases_Bool (named f.number)) [
        | inl t ↦ in_left (merges named lt g) (in-sift _ q.0 t)
        | inr u ↦ in_right (chosen named fs) (in-sift _ q.0 (not_from_false _ u))
      ])
      (spans (strict-named named lt s) (reduced-apart named lt d) i)

  moved-spanned : {e : Link} → In e (relabel (merges named lt g) (reduced named lt g.links))
      → Walk (relabel (merges named lt g) (chosen named (forest (named_first named lt) (reduced named lt g.links)))) e.a.0 e.b.0
  moved-spanned i =
      let r = in-relabel (merges named lt g) (reduced named lt g.links) i in
      rw (← r.2) (walk-relabel (merges named lt g) (chosen named _) (spanned r.1))

  pub few-named : length (chosen named (forest (named_first named lt) (reduced named lt g.links))) ≤ length (chosen named g.links)
  unfolding reduced
  few-named = omega (
    arith,
    forest-count (λ e. named e.number) (named_first named lt) (reduced named lt g.links),
    filtered-count (λ e. named e.number) (λ e. either (named e.number) (holds e.number (forest lt (rest named g.links)))) g.links,
  )

  -- At most as many links that are not named as links that are.
  pub thinned-few : length (rest named (thinned named lt g).links) ≤ length (chosen named g.links)
  thinned-few =
      let ms = merges named lt g in
      let cs = relabel ms (reduced named lt g.links) in
      let fs = chosen named (forest (named_first named lt) (reduced named lt g.links)) in
      let a = moved_apart named lt g s d in
      let p : Link → Bool = λ e. not (named e.number) in
      let r = free-rank {os = []} {es = rest named (reduced named lt cs)} (relabel ms fs)
      (free_part (forest-loopfree lt (rest named cs)) [] (rest named (reduced named lt cs)) (filtered-apart p (reduced-apart named lt a)).distinct
      (λ e i. let q = sifted p (reduced named lt cs) i in
      elim (in-reduced named lt a q.0).1 [ inl t ↦ absurd (both_ways _ (not-true _ q.1) t) | inr j ↦ j ])
      (λ f i. elim i [ ]))
      (λ e i. walk-mono (λ f j. in_left [] j) (moved-spanned (in-reduced named lt a (sifted p (reduced named lt cs) i).0).0)) in
      rw (thinned-links named lt g) (omega (arith, r, length-relabel ms fs, few-named))

  -- So at most twice as many links as named links.
  pub thinned-small : length (thinned named lt g).links ≤ 2 * length (chosen named g.links)
  unfolding thinned contracted reduced
  thinned-small =
      let ms = merges named lt g in
      let cs = relabel ms (reduced named lt g.links) in
      let p : Link → Bool = λ e. named e.number in
      let r = thinned-few in
      omega (
        arith,
        filtered-parts p (thinned named lt g).links,
        filtered-count p (λ e. either (named e.number) (holds e.number (forest lt (rest named cs)))) cs,
        ap (λ (es : List Link). length es) (filtered-relabel named ms (reduced named lt g.links)),
        length-relabel ms (chosen named (reduced named lt g.links)),
        filtered-count p (λ e. either (named e.number) (holds e.number (forest lt (rest named g.links)))) g.links,
      )
