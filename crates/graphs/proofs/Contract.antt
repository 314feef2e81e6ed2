-- The contraction: merged links are always in the least forest, and it changes no other link's place in or out.
use Rattle.std.proofs.Common.{◌≡◌, ℕ, Bool, true, false, cond, not, ◌||◌, eqb, List, ◌++◌, refl, ap, ◌∙◌, inl, inr}
use Rattle.std.proofs.lemmas.Bool.{cases_Bool, both_ways, not-true, not_from_false, ne_eqb, eqb-false, or_cases, or_left, or_right}
use Rattle.block_records.specs.declared.Link.{Link}
use Rattle.graphs.specs.Graph.{In, Walk}
use Rattle.graphs.specs.Forest.{Strict, forest, filtered, befores}
use Rattle.graphs.specs.Thin.{holds, named_first, mergeable, relabel}
use Rattle.graphs.specs.Thinning.{relabelled, Agree}
use Rattle.graphs.proofs.Joined.{walk-mono}
use Rattle.graphs.proofs.Lists.{in-sift}
use Rattle.graphs.proofs.Orders.{strict-named}
use Rattle.graphs.proofs.Walks.{hop, reroute, in_left, in_either, sifted, holds-in, held, holds_as, Apart, sole}
use Rattle.graphs.proofs.Spanning.{forest-in, keeps, drops, spans, no_loop}
use Rattle.graphs.proofs.Rename.{moved_in, in-relabel, relabel-apart, filtered-relabel, walk-relabel, relabel-walk}

first-before : (named : ℕ → Bool) (lt : ℕ → ℕ → Bool) (j k : ℕ) → named k ≡ false → (named j ≡ false → lt j k ≡ true)
    → named_first named lt j k ≡ true
first-before named lt j k n h = rw n (go (named j) refl)
  where
    go : (b : Bool) → named j ≡ b → cond b true (lt j k) ≡ true
    go true t = refl
    go false t = h t

pub in-mergeable : {z : Link} (named : ℕ → Bool) (lt : ℕ → ℕ → Bool) (es : List Link) → In z (mergeable named lt es)
    → In z (forest (named_first named lt) es) × (named z.number ≡ false)
unfolding mergeable
in-mergeable named lt es i = let q = sifted _ (forest (named_first named lt) es) i in (q.0, not-true _ q.1)

module _ {named : ℕ → Bool} {lt lt' : ℕ → ℕ → Bool} {es : List Link}
    (s : Strict lt) (s' : Strict lt') (g : Agree named lt lt') (d : Apart es) where
  -- A merged link is in the least forest.
  pub merged-kept : {c : Link} → In c (mergeable named lt es) → In c (forest lt' es)
  merged-kept {c} i =
      let q = in-mergeable named lt es i in
      elim (drops s' d (forest-in _ es q.0)) [
        | inl j ↦ j
        | inr w ↦ absurd (keeps (strict-named named lt s) d q.0 (walk-mono (λ e j.
            let r = sifted _ es j in
            in-sift _ r.0 (first-before named lt e.number c.number q.1 (λ n. g.same e.number c.number n q.1 ∙ r.1))) w))
      ]

  -- The ends of any other link of the least forest are not joined by the links before it and the merged links.
  pub kept-unjoined : {z : Link} → In z (forest lt' es) → (In z (mergeable named lt es) → ⊥)
      → Walk (befores lt' z es ++ mergeable named lt es) z.a.0 z.b.0 → ⊥
  kept-unjoined {z} i n w =
      no_loop s' d (filtered (λ e. not (eqb e.number z.number)) (forest lt' es)) i
      (λ e j. let q = sifted _ (forest lt' es) j in (q.0, eqb-false _ _ (not-true _ q.1)))
      (reroute (λ e j. elim (in_either (befores lt' z es) j) [
        | inl k ↦ let r = sifted _ es k in
            walk-mono (λ f l. let q = sifted _ (forest lt' es) l in
            in-sift _ q.0 (not_from_false _ (ne_eqb _ _ (λ h.
            both_ways (lt' e.number f.number) (not-true _ q.1) (ap (λ (n : ℕ). lt' e.number n) h ∙ r.1)))))
            (spans s' d r.0)
        | inr k ↦ let m = merged-kept k in
            hop (in-sift _ m (not_from_false _ (ne_eqb _ _ (λ h.
            n (rw (sole d (forest-in lt' es m) (forest-in lt' es i) h) at k)))))
      ]) w)

  abbrev ms : List Link
  ms = mergeable named lt es

  pub contracts : {z : Link} → In z (forest lt' es) → (In z ms → ⊥) → In (relabelled ms z) (forest lt' (relabel ms es))
  contracts {z} i n =
      elim (drops s' (relabel-apart ms d) (moved_in ms (forest-in lt' es i))) [
        | inl j ↦ j
        | inr w ↦ absurd (kept-unjoined i n (relabel-walk ms (befores lt' z es)
            (rw (filtered-relabel (λ k. lt' k z.number) ms es) at w) z.a.0 z.b.0 refl refl))
      ]

  pub uncontracts : {z : Link} → In z es → In (relabelled ms z) (forest lt' (relabel ms es)) → In z (forest lt' es)
  uncontracts {z} k i =
      elim (drops s' d k) [
        | inl j ↦ j
        | inr w ↦ absurd (keeps s' (relabel-apart ms d) i
            (rw (filtered-relabel (λ k. lt' k z.number) ms es) (walk-relabel ms (befores lt' z es) (walk-mono (λ e j. in_left ms j) w))))
      ]

  -- The least forest is the merged links and the least forest of the contracted graph.
  pub contracted-same : (k : ℕ) → holds k (forest lt' es) ≡ (holds k ms || holds k (forest lt' (relabel ms es)))
  contracted-same k = holds_as k (forest lt' es) (holds k ms || holds k (forest lt' (relabel ms es)))
      (λ e i h. elim (cases_Bool (holds k ms)) [
        | inl t ↦ or_left _ _ t
        | inr u ↦ or_right _ _ (held (contracts i (λ m. both_ways _ u (held m h))) h)
      ])
      (λ t. elim (or_cases (holds k ms) (holds k (forest lt' (relabel ms es))) t) [
        | inl u ↦ let r = holds-in k ms u in held (merged-kept r.1) r.2
        | inr u ↦ let r = holds-in k (forest lt' (relabel ms es)) u in
            let q = in-relabel ms es (forest-in lt' (relabel ms es) r.1) in
            held (uncontracts q.1 (rw (← q.2) at r.1)) (ap (λ (e : Link). e.number) q.2 ∙ r.2)
      ])
