-- A block's thinned graph has the least forests of the whole graph, but for the merged links.
use Rattle.std.proofs.Common.{◌≡◌, ℕ, Bool, true, false, ◌||◌, sym, refl, ap, ◌∙◌, inl, inr}
use Rattle.std.proofs.lemmas.Bool.{cases_Bool, both_ways}
use Rattle.graphs.specs.Forest.{Strict, forest}
use Rattle.graphs.specs.Thin.{Block, holds, reduced, relabel, contracted, thinned}
use Rattle.graphs.specs.Thinning.{relabelled, merges, Agree}
use Rattle.graphs.proofs.Walks.{hop, same-stay, holds-in, Apart, sole, filtered-apart}
use Rattle.graphs.proofs.Spanning.{forest-in, forest-unheld, keeps}
use Rattle.graphs.proofs.Rename.{walk-renamed, moved_in, relabel-apart}
use Rattle.graphs.proofs.Reduce.{in-reduced, reduced-apart, reduced-same}
use Rattle.graphs.proofs.Contract.{in-mergeable, contracted-same}

pub thinned-links : (named : ℕ → Bool) (lt : ℕ → ℕ → Bool) (g : Block)
    → (thinned named lt g).links ≡ reduced named lt (relabel (merges named lt g) (reduced named lt g.links))
unfolding thinned contracted
thinned-links named lt g = refl

or-none : (b : Bool) → (b || false) ≡ b
or-none true = refl
or-none false = refl

module _ (named : ℕ → Bool) (lt : ℕ → ℕ → Bool) (g : Block) (s : Strict lt) (d : Apart g.links) where
  pub moved_apart : Apart (relabel (merges named lt g) (reduced named lt g.links))
  moved_apart = relabel-apart (merges named lt g) (reduced-apart named lt d)

  -- A link in the thinned graph is not merged.
  pub thinned-unmerged : (k : ℕ) → holds k (thinned named lt g).links ≡ true → holds k (merges named lt g) ≡ false
  thinned-unmerged k h = elim (cases_Bool (holds k (merges named lt g))) [
    | inr u ↦ u
    | inl t ↦
        let ms = merges named lt g in
        let r = holds-in k ms t in
        let q = in-mergeable named lt (reduced named lt g.links) r.1 in
        let p = holds-in k _ (rw (thinned-links named lt g) at h) in
        let v = in-reduced named lt moved_apart p.1 in
        let e : relabelled ms r.0 ≡ p.0 = sole moved_apart (moved_in ms (forest-in _ _ q.0)) v.0 (r.2 ∙ sym p.2) in
        elim v.1 [
          | inl n ↦ absurd (both_ways _ q.1 (ap named (r.2 ∙ sym p.2) ∙ n))
          | inr i ↦ absurd (keeps s (filtered-apart _ moved_apart) (rw (← e) at i) (same-stay (walk-renamed (hop r.1))))
        ]
  ]

  module _ {lt' : ℕ → ℕ → Bool} (s' : Strict lt') (a : Agree named lt lt') where
    -- The least forest is the merged links and the least forest of the thinned graph.
    pub thinned-same : (k : ℕ)
        → holds k (forest lt' g.links) ≡ (holds k (merges named lt g) || holds k (forest lt' (thinned named lt g).links))
    thinned-same k =
        rw (thinned-links named lt g)
        (reduced-same s s' a d k ∙ contracted-same s s' a (reduced-apart named lt d) k
        ∙ ap (λ (b : Bool). holds k (merges named lt g) || b) (reduced-same s s' a moved_apart k))

    -- So a link in the thinned graph is in the least forest exactly if it is in that of the thinned graph,
    pub thinned-held : (k : ℕ) → holds k (thinned named lt g).links ≡ true
        → holds k (forest lt' g.links) ≡ holds k (forest lt' (thinned named lt g).links)
    thinned-held k h = thinned-same k ∙ rw (thinned-unmerged k h)

    -- and any other link is exactly if it is merged, whatever the order of the named links.
    pub thinned-gone : (k : ℕ) → holds k (thinned named lt g).links ≡ false
        → holds k (forest lt' g.links) ≡ holds k (merges named lt g)
    thinned-gone k h = thinned-same k ∙ rw (forest-unheld lt' k (thinned named lt g).links h) (or-none (holds k (merges named lt g)))
