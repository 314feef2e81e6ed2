-- The first tear of a batch, in parts and on the thinned graph.
use Rattle.std.proofs.Common.{◌≡◌, ℕ, suc, ◌+◌, ◌<◌, ◌≤◌, true, false, cond, eqb, ltb, leb, List, [], ◌∷◌, ◌++◌, length, sym, refl, ap, ◌∙◌, subst, inl, inr, arith}
use Rattle.std.proofs.lemmas.Bool.{cases_Bool, both_ways, or_cases, or_left, or_right, eqb-true, leb-true, leb-false, cond-true, cond-false}
use Rattle.std.proofs.lemmas.Bool.Decides.{nat_tests}
use Rattle.block_records.specs.declared.Link.{Link}
use Rattle.graphs.specs.Thin.{Block, holds, reduced}
use Rattle.graphs.specs.Thinning.{merges}
use Rattle.graphs.specs.Graph.{In}
use Rattle.graphs.proofs.Walks.{in-holds, holds-in}
use Rattle.graphs.proofs.Contract.{in-mergeable}
use Rattle.block_records.specs.declared.Move.{Move}
use Rattle.plans.specs.Places.{place_of, place_before, moved, moved_by}
use Rattle.plans.specs.Plan.{forest_at, tree_at, among}
use Rattle.plans.specs.Work.{named, thinned_for}
use Rattle.plans.proofs.Moves.{placed-other}
use Rattle.plans.proofs.Halves.{Keeps, Names, among-holds}
use Rattle.plans.specs.Tears.{late, torn_at, first_tear, late_by, first_tear_by}

-- Late numbers, one by one.
late-some : (absent : ℕ) (ps ks : List ℕ) → late absent ps ks ≡ true → (k : ℕ) × (among k ks ≡ true) × (leb absent (place_of ps k) ≡ true)
unfolding late_by among
late-some absent ps [] h = absurd (both_ways false refl h)
late-some absent ps (k ∷ ks) h = elim (or_cases (leb absent (place_of ps k)) (late absent ps ks) h) [
  | inl t ↦ (k, grind (arith, nat_tests), t)
  | inr t ↦ let r = late-some absent ps ks t in (r.0, or_right (eqb r.0 k) (among r.0 ks) r.1, r.2)
]

some-late : (absent : ℕ) (ps ks : List ℕ) (k : ℕ) → among k ks ≡ true → leb absent (place_of ps k) ≡ true → late absent ps ks ≡ true
unfolding late_by among
some-late absent ps [] k a l = absurd (both_ways false refl a)
some-late absent ps (x ∷ ks) k a l = elim (or_cases (eqb k x) (among k ks) a) [
  | inl t ↦ or_left (leb absent (place_of ps x)) (late absent ps ks) (subst (λ y. leb absent (place_of ps y) ≡ true) (eqb-true k x t) l)
  | inr t ↦ or_right (leb absent (place_of ps x)) (late absent ps ks) (some-late absent ps ks k t l)
]

-- Whole means that each link of the least forest is placed before the absent place.
pub whole-low : (absent : ℕ) (ps : List ℕ) (es : List Link) → torn_at absent ps es ≡ false → (f : Link) → In f (forest_at ps es) → place_of ps f.number < absent
whole-low absent ps es h f i = elim (cases_Bool (leb absent (place_of ps f.number))) [
  | inl t ↦ absurd (both_ways (torn_at absent ps es) h (some-late absent ps (tree_at ps es) f.number (among-holds f.number (forest_at ps es) ∙ in-holds i) t))
  | inr t ↦ leb-false absent (place_of ps f.number) t
]

pub low-whole : (absent : ℕ) (ps : List ℕ) (es : List Link) → ((f : Link) → In f (forest_at ps es) → place_of ps f.number < absent) → torn_at absent ps es ≡ false
low-whole absent ps es h = elim (cases_Bool (torn_at absent ps es)) [
  | inl t ↦
      let r = late-some absent ps (tree_at ps es) t in
      let q = holds-in r.0 (forest_at ps es) (sym (among-holds r.0 (forest_at ps es)) ∙ r.1) in
      let b = h q.0 q.1 in
      let c = leb-true absent (place_of ps r.0) r.2 in
      absurd (omega (arith, ap (place_of ps) q.2))
  | inr t ↦ t
]

module _ (absent : ℕ) (places : List ℕ) (cs : List (Move ℕ)) (g : Block)
    (keeps : Keeps places cs g (merges (named cs) (place_before places) g)) (whole : torn_at absent places g.links ≡ false) where
  -- The places differ from the block's at named links only.
  abbrev pub Stay : List ℕ → Type 0
  Stay ps = (k : ℕ) → named cs k ≡ false → place_of ps k ≡ place_of places k

  stay-agrees : (ps : List ℕ) → Stay ps → (j k : ℕ) → named cs j ≡ false → named cs k ≡ false → place_before places j k ≡ place_before ps j k
  stay-agrees ps s j k u v = let p = s j u in let q = s k v in rw (p, q)

  pub stay-moved : (ps : List ℕ) (d : Move ℕ) → named cs d.link ≡ true → Stay ps → Stay (moved ps d)
  stay-moved ps d n s k u = placed-other ps d.link d.to k (λ e. both_ways (named cs k) u (rw e n)) ∙ s k u

  unnamed : (k : ℕ) → holds k (merges (named cs) (place_before places) g) ≡ true → named cs k ≡ false
  unnamed k h =
      let r = holds-in k (merges (named cs) (place_before places) g) h in
      subst (λ j. named cs j ≡ false) r.2 (in-mergeable (named cs) (place_before places) (reduced (named cs) (place_before places) g.links) r.1).1

  torn-to : (ps : List ℕ) → Stay ps → torn_at absent ps g.links ≡ true → torn_at absent ps (thinned_for places cs g).links ≡ true
  torn-to ps s h =
      let r = late-some absent ps (tree_at ps g.links) h in
      let k = r.0 in
      let t = (thinned_for places cs g).links in
      let ms = merges (named cs) (place_before places) g in
      let in_g : holds k (forest_at ps g.links) ≡ true = sym (among-holds k (forest_at ps g.links)) ∙ r.1 in
      elim (or_cases (holds k ms) (holds k (forest_at ps t)) (sym (keeps.same ps (stay-agrees ps s) k) ∙ in_g)) [
        | inl m ↦
            let was : holds k (forest_at places g.links) ≡ true = keeps.same places (λ i j u v. refl) k ∙ or_left (holds k ms) (holds k (forest_at places t)) m in
            let lt : leb absent (place_of places k) ≡ true = subst (λ x. leb absent x ≡ true) (s k (unnamed k m)) r.2 in
            absurd (both_ways (torn_at absent places g.links) whole (some-late absent places (tree_at places g.links) k (among-holds k (forest_at places g.links) ∙ was) lt))
        | inr m ↦ some-late absent ps (tree_at ps t) k (among-holds k (forest_at ps t) ∙ m) r.2
      ]

  torn-from : (ps : List ℕ) → Stay ps → torn_at absent ps (thinned_for places cs g).links ≡ true → torn_at absent ps g.links ≡ true
  torn-from ps s h =
      let t = (thinned_for places cs g).links in
      let r = late-some absent ps (tree_at ps t) h in
      let k = r.0 in
      let ms = merges (named cs) (place_before places) g in
      let in_t : holds k (forest_at ps t) ≡ true = sym (among-holds k (forest_at ps t)) ∙ r.1 in
      some-late absent ps (tree_at ps g.links) k
      (among-holds k (forest_at ps g.links) ∙ keeps.same ps (stay-agrees ps s) k ∙ or_right (holds k ms) (holds k (forest_at ps t)) in_t) r.2

  pub torn-thinned : (ps : List ℕ) → Stay ps → torn_at absent ps g.links ≡ torn_at absent ps (thinned_for places cs g).links
  torn-thinned ps s = elim (cases_Bool (torn_at absent ps g.links)) [
    | inl h ↦ h ∙ sym (torn-to ps s h)
    | inr h ↦ elim (cases_Bool (torn_at absent ps (thinned_for places cs g).links)) [
      | inl k ↦ absurd (both_ways (torn_at absent ps g.links) h (torn-from ps s k))
      | inr k ↦ h ∙ sym k
    ]
  ]

  pub tear-thinned : (ps : List ℕ) (ds : List (Move ℕ)) → Names cs ds → Stay ps → first_tear absent ps g.links ds ≡ first_tear absent ps (thinned_for places cs g).links ds
  unfolding first_tear_by
  tear-thinned ps [] n s = refl
  tear-thinned ps (d ∷ ds) n s =
      let s2 = stay-moved ps d n.0 s in
      let a = torn-thinned (moved ps d) s2 in
      let b = tear-thinned (moved ps d) ds n.1 s2 in
      cc

-- The first tear of changes in two parts.
pub tear-low : (absent : ℕ) (ps : List ℕ) (es : List Link) (cs : List (Move ℕ)) → first_tear absent ps es cs ≤ length cs
unfolding first_tear_by
tear-low absent ps es [] = omega arith
tear-low absent ps es (c ∷ cs) = let h = tear-low absent (moved ps c) es cs in grind (arith, nat_tests)

pub tear-append : (absent : ℕ) (ps : List ℕ) (es : List Link) (cs ds : List (Move ℕ))
    → first_tear absent ps es (cs ++ ds) ≡ cond (ltb (first_tear absent ps es cs) (length cs)) (first_tear absent ps es cs) (length cs + first_tear absent (moved_by ps cs) es ds)
unfolding first_tear_by moved_by
tear-append absent ps es [] ds = grind (arith, nat_tests)
tear-append absent ps es (c ∷ cs) ds = let h = tear-append absent (moved ps c) es cs ds in grind (arith, nat_tests)

-- Where no change tears, the forest after them is whole.
pub tear-none : (absent : ℕ) (ps : List ℕ) (es : List Link) (cs : List (Move ℕ)) → torn_at absent ps es ≡ false → first_tear absent ps es cs ≡ length cs
    → torn_at absent (moved_by ps cs) es ≡ false
unfolding first_tear_by moved_by
tear-none absent ps es [] w h = w
tear-none absent ps es (c ∷ cs) w h = elim (cases_Bool (torn_at absent (moved ps c) es)) [
  | inl t ↦ absurd (zero-suc _ (sym (cond-true _ _ _ t) ∙ h))
  | inr t ↦ tear-none absent (moved ps c) es cs t (pred-same _ _ (sym (cond-false _ _ _ t) ∙ h))
]
  where
    zero-suc : (k : ℕ) → 0 ≡ suc k → ⊥
    zero-suc k e = omega arith

    pred-same : (i j : ℕ) → suc i ≡ suc j → i ≡ j
    pred-same i j e = omega arith
