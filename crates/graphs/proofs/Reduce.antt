-- The reduction: links that it drops are never in the least forest, and it changes no other link's place in or out.
use Rattle.std.proofs.Common.{◌≡◌, ℕ, Bool, true, false, not, ◌⊎◌, List, sym, refl, ap, ◌∙◌, inl, inr}
use Rattle.std.proofs.lemmas.Bool.{cases_Bool, not-true, not_from_false}
use Rattle.block_records.specs.declared.Link.{Link}
use Rattle.graphs.specs.Graph.{In, Walk}
use Rattle.graphs.specs.Forest.{Strict, forest, befores}
use Rattle.graphs.specs.Thin.{holds, either, reduced}
use Rattle.graphs.specs.Thinning.{rest, Agree}
use Rattle.graphs.proofs.Joined.{walk-mono}
use Rattle.graphs.proofs.Lists.{in-sift}
use Rattle.graphs.proofs.Walks.{hop, reroute, sifted, in-holds, holds-in, held, holds_as, Apart, sole, filtered-apart}
use Rattle.graphs.proofs.Spanning.{not_after, forest-in, ahead, keeps, drops, spans}

either-cases : (x y : Bool) → either x y ≡ true → (x ≡ true) ⊎ (y ≡ true)
either-cases true y h = inl refl
either-cases false y h = inr h

either_left : (x y : Bool) → x ≡ true → either x y ≡ true
either_left x y h = rw h

either-right : (x y : Bool) → y ≡ true → either x y ≡ true
either-right true y h = refl
either-right false y h = h

module _ (named : ℕ → Bool) (lt : ℕ → ℕ → Bool) {es : List Link} (d : Apart es) where
  pub in-reduced : {z : Link} → In z (reduced named lt es)
      → In z es × ((named z.number ≡ true) ⊎ In z (forest lt (rest named es)))
  unfolding reduced
  in-reduced {z} i =
      let r = sifted _ es i in (
        r.0,
        elim (either-cases (named z.number) (holds z.number (forest lt (rest named es))) r.1) [
          | inl t ↦ inl t
          | inr t ↦ let h = holds-in _ _ t in
              inr (rw (sole d (sifted _ es (forest-in lt _ h.1)).0 r.0 h.2) at h.1)
        ],
      )

  pub named-reduced : {z : Link} → In z es → named z.number ≡ true → In z (reduced named lt es)
  unfolding reduced
  named-reduced i t = in-sift _ i (either_left _ _ t)

  pub other-reduced : {z : Link} → In z (forest lt (rest named es)) → In z (reduced named lt es)
  unfolding reduced
  other-reduced {z} i = in-sift _ (sifted _ es (forest-in lt _ i)).0 (either-right (named z.number) _ (in-holds i))

  pub reduced-apart : Apart (reduced named lt es)
  unfolding reduced
  reduced-apart = filtered-apart _ d

module _ {named : ℕ → Bool} {lt lt' : ℕ → ℕ → Bool} {es : List Link}
    (s : Strict lt) (s' : Strict lt') (g : Agree named lt lt') (d : Apart es) where
  -- The reduced links that are not after a link join its ends.
  pub bypass : {e : Link} → In e es → Walk (not_after lt' e (reduced named lt es)) e.a.0 e.b.0
  bypass {e} i =
      elim (cases_Bool (named e.number)) [
        | inl t ↦ hop (in-sift _ (named-reduced named lt d i t) (not_from_false _ (s'.apart e.number)))
        | inr u ↦ walk-mono (λ f j.
            let q = sifted _ (forest lt (rest named es)) j in
            let n = (sifted _ es (forest-in lt (rest named es) q.0)).1 in
            in-sift _ (other-reduced named lt d q.0) (sym (ap not (g.same e.number f.number u (not-true _ n))) ∙ q.1))
            (spans s (filtered-apart _ d) (in-sift _ i (not_from_false _ u)))
      ]

  -- Walks over the links before z, within the reduced links.
  rerouted : (z : Link) {x y : ℕ} → Walk (befores lt' z es) x y → Walk (befores lt' z (reduced named lt es)) x y
  rerouted z w = reroute (λ e i.
      let q = sifted _ es i in
      walk-mono (λ f j. let r = sifted _ (reduced named lt es) j in
      in-sift _ r.0 (ahead s' f.number e.number z.number (not-true _ r.1) q.1))
      (bypass q.0)) w

  restored : (z : Link) {x y : ℕ} → Walk (befores lt' z (reduced named lt es)) x y → Walk (befores lt' z es) x y
  restored z w = walk-mono (λ e i. let q = sifted _ (reduced named lt es) i in in-sift _ (in-reduced named lt d q.0).0 q.1) w

  -- A link of the least forest is in the reduced graph, and in its least forest.
  pub kept-reduced : {z : Link} → In z (forest lt' es) → In z (reduced named lt es)
  kept-reduced {z} i =
      let k = forest-in lt' es i in
      elim (cases_Bool (named z.number)) [
        | inl t ↦ named-reduced named lt d k t
        | inr u ↦ elim (drops s (filtered-apart _ d) (in-sift _ k (not_from_false _ u))) [
          | inl j ↦ other-reduced named lt d j
          | inr w ↦ absurd (keeps s' d i (walk-mono (λ e j.
              let q = sifted _ (rest named es) j in
              let r = sifted _ es q.0 in
              in-sift _ r.0 (sym (g.same e.number z.number (not-true _ r.1) u) ∙ q.1)) w))
        ]
      ]

  pub reduces : {z : Link} → In z (forest lt' es) → In z (forest lt' (reduced named lt es))
  reduces {z} i =
      elim (drops s' (reduced-apart named lt d) (kept-reduced i)) [ inl j ↦ j | inr w ↦ absurd (keeps s' d i (restored z w)) ]

  pub expands : {z : Link} → In z (forest lt' (reduced named lt es)) → In z (forest lt' es)
  expands {z} i =
      elim (drops s' d (in-reduced named lt d (forest-in lt' _ i)).0)
      [ inl j ↦ j | inr w ↦ absurd (keeps s' (reduced-apart named lt d) i (rerouted z w)) ]

  -- Reduction keeps the least forest.
  pub reduced-same : (k : ℕ) → holds k (forest lt' es) ≡ holds k (forest lt' (reduced named lt es))
  reduced-same k = holds_as k (forest lt' es) (holds k (forest lt' (reduced named lt es)))
      (λ e i h. held (reduces i) h)
      (λ t. let r = holds-in k (forest lt' (reduced named lt es)) t in held (expands r.1) r.2)
