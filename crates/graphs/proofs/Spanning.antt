-- The least forest, by walks: which links it keeps, that it spans, and that it has no loop.
use Rattle.std.proofs.Common.{◌≡◌, ℕ, Bool, true, false, not, ◌⊎◌, List, refl, inl, inr}
use Rattle.std.proofs.lemmas.Bool.{cases_Bool, both_ways, not-true, not_from_false}
use Rattle.block_records.specs.declared.Link.{Link}
use Rattle.graphs.specs.Graph.{In, Walk}
use Rattle.graphs.specs.Forest.{Strict, filtered, forest, befores}
use Rattle.graphs.specs.Thin.{holds}
use Rattle.graphs.proofs.Joined.{walk-joins, walk-dec, walk-mono, joined-walk}
use Rattle.graphs.proofs.Lists.{in-sift, in-others}
use Rattle.graphs.proofs.Loops.{unjoins}
use Rattle.graphs.proofs.Kruskal.{forest-sub, forest-loopfree, forest-spans-part, forest-unjoined, in-forest}
use Rattle.graphs.proofs.Walks.{Apart, held, holds_as}

-- The links that are not after e.
abbrev pub not_after : (ℕ → ℕ → Bool) → Link → List Link → List Link
not_after lt e es = filtered (λ f. not (lt e.number f.number)) es

pub forest-in : {z : Link} (lt : ℕ → ℕ → Bool) (es : List Link) → In z (forest lt es) → In z es
forest-in {z} lt es i = forest-sub lt es z i

pub forest-unheld : (lt : ℕ → ℕ → Bool) (k : ℕ) (es : List Link) → holds k es ≡ false → holds k (forest lt es) ≡ false
forest-unheld lt k es h =
    holds_as k (forest lt es) false (λ e i q. absurd (both_ways _ h (held (forest-in lt es i) q))) (λ t. absurd (both_ways _ refl t))

module _ {lt : ℕ → ℕ → Bool} (s : Strict lt) where
  pub ahead : (f e g : ℕ) → lt e f ≡ false → lt e g ≡ true → lt f g ≡ true
  ahead f e g h k = elim (s.total f e) [ inl t ↦ s.chain f e g t k | inr (inl q) ↦ rw q k | inr (inr t) ↦ absurd (both_ways _ h t) ]

  module _ {es : List Link} (d : Apart es) where
    -- A link of the least forest has ends that the links before it do not join.
    pub keeps : {z : Link} → In z (forest lt es) → Walk (befores lt z es) z.a.0 z.b.0 → ⊥
    keeps {z} i w = both_ways _ (forest-unjoined lt s es d.distinct z i) (walk-joins w)

    -- Every link is in the least forest or has its ends joined by the links before it.
    pub drops : {z : Link} → In z es → In z (forest lt es) ⊎ Walk (befores lt z es) z.a.0 z.b.0
    drops {z} i =
        elim (walk-dec (befores lt z es) z.a.0 z.b.0)
        [ inl w ↦ inr w | inr n ↦ inl (in-forest lt s es d.distinct z i (unjoins (λ j. n (joined-walk _ j)))) ]

    -- Each link's ends are joined by the links of the least forest that are not after it.
    pub spans : {e : Link} → In e es → Walk (not_after lt e (forest lt es)) e.a.0 e.b.0
    spans {e} i =
        joined-walk _ (forest-spans-part lt s es d.distinct (λ f. not (lt e.number f.number))
        (λ g f h k. not_from_false _ (elim (cases_Bool (lt e.number g.number))
        [ inl t ↦ absurd (both_ways _ (not-true _ k) (s.chain _ _ _ t h)) | inr u ↦ u ]))
        e (in-sift _ i (not_from_false _ (s.apart e.number))))

    -- The other links of the least forest do not join the ends of one.
    pub no_loop : {z : Link} (bs : List Link) → In z (forest lt es)
        → ((e : Link) → In e bs → In e (forest lt es) × (e.number ≡ z.number → ⊥)) → Walk bs z.a.0 z.b.0 → ⊥
    no_loop {z} bs i h w =
        both_ways _ (forest-loopfree lt es z i) (walk-joins (walk-mono (λ e j. in-others z (h e j).0 (h e j).1) w))
