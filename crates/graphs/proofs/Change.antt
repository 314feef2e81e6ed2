-- When one link's place in the order changes, the least forest changes by at most one link out and one in.
use Rattle.std.proofs.Common.{◌≡◌, ℕ, ◌≤◌, Bool, true, false, eqb, ◌≢◌, List, [], ◌∷◌, length, sym, refl, ap, ◌∙◌, inl, inr, arith}
use Rattle.std.proofs.lemmas.Bool.{cases_Bool, both_ways, cases_eq, not_from_false, ne_eqb}
use Rattle.block_records.specs.declared.Link.{Link}
use Rattle.graphs.specs.Graph.{In, here, later}
use Rattle.graphs.specs.Forest.{Strict, forest}
use Rattle.graphs.specs.Thin.{holds, thinned}
use Rattle.graphs.specs.Thinning.{rest, Agree, Leaves, OneChange}
use Rattle.graphs.proofs.Joined.{walk-mono}
use Rattle.graphs.proofs.Lists.{in-sift}
use Rattle.graphs.proofs.Walks.{sifted, in-holds, holds-in, held, Apart, sole}
use Rattle.graphs.proofs.Spanning.{forest-in, spans, no_loop}
use Rattle.graphs.proofs.Thinned.{thinned-gone}
use Rattle.graphs.proofs.Size.{chosen-one, thinned-few}

at_most_one : {e f : Link} (es : List Link) → length es ≤ 1 → In e es → In f es → e ≡ f
at_most_one [] h i j = elim i [ ]
at_most_one (g ∷ []) h here here = refl
at_most_one (g ∷ []) h here (later j) = elim j [ ]
at_most_one (g ∷ []) h (later i) j = elim i [ ]
at_most_one (g ∷ x ∷ es) h i j = absurd (omega arith)

differ : (x y : Bool) → (x ≡ true) × (y ≡ false) → x ≡ y → ⊥
differ x y l h = both_ways x (h ∙ l.1) l.0

-- Where a link leaves, another comes in.
pub replaced : {lt lt' : ℕ → ℕ → Bool} {es : List Link} → Strict lt → Strict lt' → Apart es → (k : ℕ) → Leaves k (forest lt es) (forest lt' es)
    → ((f : Link) → In f (forest lt' es) → holds f.number (forest lt es) ≡ true) → ⊥
replaced {lt} {lt'} {es} s s' d k l h =
    let r = holds-in k (forest lt es) l.0 in
    no_loop s d (forest lt' es) r.1
    (λ f i. (
      let q = holds-in _ (forest lt es) (h f i) in
          rw (sole d (forest-in lt es q.1) (forest-in lt' es i) q.2) at q.1,
      λ e. both_ways _ l.1 (held i (e ∙ r.2)),
    ))
    (walk-mono (λ f i. (sifted _ (forest lt' es) i).0) (spans s' d (forest-in lt es r.1)))

module _ (c : ℕ) {lt lt' : ℕ → ℕ → Bool} {es : List Link} (s : Strict lt) (s' : Strict lt')
    (a : Agree (λ k. eqb k c) lt lt') (d : Apart es) where
  abbrev thin : List Link
  thin = (thinned (λ k. eqb k c) lt (record { nodes = 0; links = es })).links

  -- A link that differs is in the thinned graph,
  differs : (k : ℕ) → (holds k (forest lt es) ≡ holds k (forest lt' es) → ⊥) → holds k thin ≡ true
  differs k n =
      elim (cases_Bool (holds k thin)) [
        | inl t ↦ t
        | inr u ↦ absurd (n (thinned-gone (λ k. eqb k c) lt (record { nodes = 0; links = es }) s d s (record { same = λ j k p q. refl }) k u
            ∙ sym (thinned-gone (λ k. eqb k c) lt (record { nodes = 0; links = es }) s d s' a k u)))
      ]

  -- which has at most one link besides c.
  few : length (rest (λ k. eqb k c) thin) ≤ 1
  few = omega (arith, thinned-few (λ k. eqb k c) lt (record { nodes = 0; links = es }) s d, chosen-one c es d.distinct)

  same-other : (j k : ℕ) → j ≢ c → k ≢ c → (holds j (forest lt es) ≡ holds j (forest lt' es) → ⊥)
      → (holds k (forest lt es) ≡ holds k (forest lt' es) → ⊥) → j ≡ k
  same-other j k mj mk nj nk =
      let p = holds-in j thin (differs j nj) in let q = holds-in k thin (differs k nk) in
      sym p.2 ∙ ap (λ (e : Link). e.number) (at_most_one (rest (λ k. eqb k c) thin) few
      (in-sift _ p.1 (not_from_false _ (ne_eqb _ _ (λ h. mj (sym p.2 ∙ h)))))
      (in-sift _ q.1 (not_from_false _ (ne_eqb _ _ (λ h. mk (sym q.2 ∙ h)))))) ∙ q.2

  -- Where a link leaves that is not c, c comes in.
  leaves-for : (k : ℕ) → k ≢ c → Leaves k (forest lt es) (forest lt' es) → Leaves c (forest lt' es) (forest lt es)
  leaves-for k m l =
      elim (cases_Bool (holds c (forest lt' es))) [
        | inr u ↦ absurd (stays (λ q. both_ways _ u q.0))
        | inl t ↦ elim (cases_Bool (holds c (forest lt es))) [ inr u ↦ (t, u) | inl u ↦ absurd (stays (λ q. both_ways _ q.1 u)) ]
      ]
    where
      stays : (Leaves c (forest lt' es) (forest lt es) → ⊥) → ⊥
      stays n = replaced s s' d k l (λ f i. elim (cases_Bool (holds f.number (forest lt es))) [
        | inl t ↦ t
        | inr u ↦ elim (cases_eq f.number c) [
          | inl h ↦ absurd (n (held i h, rw h at u))
          | inr o ↦ absurd (both_ways _ l.1 (held i
              (same-other f.number k o m (λ h. differ _ _ (in-holds i, u) (sym h)) (differ _ _ l))))
        ]
      ])

  leaves-one : (j k : ℕ) → Leaves j (forest lt es) (forest lt' es) → Leaves k (forest lt es) (forest lt' es) → j ≡ k
  leaves-one j k p q =
      elim (cases_eq j c) [
        | inl hj ↦ elim (cases_eq k c) [
          | inl hk ↦ hj ∙ sym hk
          | inr mk ↦ absurd (both_ways _ (leaves-for k mk q).1 (rw hj at p.0))
        ]
        | inr mj ↦ elim (cases_eq k c) [
          | inl hk ↦ absurd (both_ways _ (leaves-for j mj p).1 (rw hk at q.0))
          | inr mk ↦ same-other j k mj mk (differ _ _ p) (differ _ _ q)
        ]
      ]

pub one-change : (c : ℕ) {lt lt' : ℕ → ℕ → Bool} {es : List Link} → Strict lt → Strict lt' → Agree (λ k. eqb k c) lt lt' → Apart es
    → OneChange c (forest lt es) (forest lt' es)
one-change c {lt} {lt'} s s' a d =
    let b : Agree (λ k. eqb k c) lt' lt = record { same = λ j k p q. sym (a.same j k p q) } in
    record {
      out = leaves-one c s s' a d;
      into = leaves-one c s' s b d;
      out-for = leaves-for c s s' a d;
      into-for = leaves-for c s' s b d;
    }
