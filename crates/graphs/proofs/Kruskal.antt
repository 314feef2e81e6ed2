-- The greedy forest: what it joins, that it is loop-free, and which links are in it.
use Rattle.std.proofs.Common.{◌≡◌, ℕ, Bool, true, false, eqb, ◌⊎◌, ◌↔◌, List, [], ◌∷◌, refl, subst, inl, inr}
use Rattle.std.proofs.lemmas.Bool.{cond_both, both_ways, eq-eqb, eqb-true, or_cases, or_left, or_right}
use Rattle.block_records.specs.declared.Link.{Link}
use Rattle.graphs.specs.Graph.{joins, In, here, later}
use Rattle.graphs.specs.Forest.{Strict, Distinct, filtered, LoopFree, ordered, greedy, forest, before, upto, befores}
use Rattle.graphs.proofs.Joined.{◌⊆◌, Spans, Joined, joined_in, joined-mono, joined-spans, joins-joined}
use Rattle.graphs.proofs.Lists.{in-cons, sub-cons, same-num, find-num, filtered-sub, filtered-test, in-sift, in-others, Sorted, ordered-in, in-ordered, sorted-ordered, sorted-distinct}
use Rattle.graphs.proofs.Loops.{unjoined, unjoins, loopfree-sub, loopfree-more}

-- The two cases of a greedy choice.
pub greedy-step : (P : List Link → Type 0) (k : List Link) (e : Link) (s : List Link) → (Joined k e.a.0 e.b.0 → P (greedy k s))
    → ((Joined k e.a.0 e.b.0 → ⊥) → P (e ∷ greedy (e ∷ k) s)) → P (greedy k (e ∷ s))
unfolding greedy
greedy-step P k e s f g =
    cond_both (joins k e.a.0 e.b.0) (greedy k s) (e ∷ greedy (e ∷ k) s) P (λ h. f (joins-joined h)) (λ h. g (unjoined h))

pub greedy-sub : (k s : List Link) → greedy k s ⊆ s
unfolding greedy
greedy-sub k [] f i = i
greedy-sub k (e ∷ s) f i =
    greedy-step (λ l. In f l → In f (e ∷ s)) k e s (λ _ j. later (greedy-sub k s f j)) (λ _. sub-cons e (greedy-sub (e ∷ k) s) f) i

-- Links taken from the kept ones and the chosen ones hold no loop.
greedy-loopfree : (R k s : List Link) → LoopFree k → ((f : Link) → In f R → In f k ⊎ In f (greedy k s)) → LoopFree R
unfolding greedy
greedy-loopfree R k [] l h = loopfree-sub (λ f i. elim (h f i) [ inl j ↦ j | inr j ↦ elim j [ ] ]) l
greedy-loopfree R k (e ∷ s) l h =
    greedy-step (λ c. ((f : Link) → In f R → In f k ⊎ In f c) → LoopFree R) k e s
    (λ _ m. greedy-loopfree R k s l m)
    (λ n m. greedy-loopfree R (e ∷ k) s (loopfree-more e k l n)
    (λ f i. elim (m f i) [
      | inl j ↦ inl (later j)
      | inr j ↦ in-cons (λ g. In g (e ∷ k) ⊎ In g (greedy (e ∷ k) s)) j (inl here) (λ q. inr q)
    ])) h

module _ (lt : ℕ → ℕ → Bool) where
  pub greedy-sorted : (k s : List Link) → Sorted lt s → Sorted lt (greedy k s)
  unfolding greedy
  greedy-sorted k [] o = tt
  greedy-sorted k (e ∷ s) o =
      greedy-step (Sorted lt) k e s (λ _. greedy-sorted k s o.1)
      (λ _. (λ f i. o.0 f (greedy-sub (e ∷ k) s f i), greedy-sorted (e ∷ k) s o.1))

  -- A part of the links with all that come before any of them: the chosen ones of the part join its links' ends.
  module _ (P : Link → Bool) (down : (e f : Link) → lt e.number f.number ≡ true → P f ≡ true → P e ≡ true) (R : List Link) where
    greedy-spans : (k s : List Link) → Sorted lt s → k ⊆ R → ((f : Link) → In f (greedy k s) → P f ≡ true → In f R)
        → (f : Link) → In f s → P f ≡ true → Joined R f.a.0 f.b.0
    unfolding greedy
    greedy-spans k [] o h g f i p = elim i [ ]
    greedy-spans k (e ∷ s) o h g f i p =
        greedy-step (λ c. ((f : Link) → In f c → P f ≡ true → In f R) → Joined R f.a.0 f.b.0) k e s
        (λ j m. in-cons (λ f. P f ≡ true → Joined R f.a.0 f.b.0) i (λ _. joined-mono h j) (λ t. greedy-spans k s o.1 h m f t) p)
        (λ n m. in-cons (λ f. P f ≡ true → Joined R f.a.0 f.b.0) i (λ q. joined_in (m e here q))
        (λ t q. greedy-spans (e ∷ k) s o.1
        (λ f' u. in-cons (λ g'. In g' R) u (m e here (down e f (o.0 f t) q)) (h f'))
        (λ f' u. m f' (later u)) f t q) p) g

  pub forest-sub : (es : List Link) → forest lt es ⊆ es
  forest-sub es f i = ordered-in lt es f (greedy-sub [] (ordered lt es) f i)

  pub forest-loopfree : (es : List Link) → LoopFree (forest lt es)
  forest-loopfree es = greedy-loopfree (forest lt es) [] (ordered lt es) (λ z i. elim i [ ]) (λ f i. inr i)

  module _ (o : Strict lt) where
    pub before-down : (z e f : Link) → lt e.number f.number ≡ true → before lt z f ≡ true → before lt z e ≡ true
    before-down z e f h k = o.chain e.number f.number z.number h k

    pub upto-down : (z e f : Link) → lt e.number f.number ≡ true → upto lt z f ≡ true → upto lt z e ≡ true
    upto-down z e f h k =
        or_right (eqb e.number z.number) (before lt z e)
        (elim (or_cases (eqb f.number z.number) (before lt z f) k) [
          | inl q ↦ rw (eqb-true f.number z.number q) at h
          | inr q ↦ before-down z e f h q
        ])

    module _ (es : List Link) (d : Distinct es) where
      pub forest-sorted : Sorted lt (forest lt es)
      forest-sorted = greedy-sorted [] (ordered lt es) (sorted-ordered lt o es d)

      pub forest-distinct : Distinct (forest lt es)
      forest-distinct = sorted-distinct lt o (forest lt es) forest-sorted

      -- A part of the links with all that come before any of them is joined by the forest's links of that part.
      pub forest-spans-part : (P : Link → Bool) → ((e f : Link) → lt e.number f.number ≡ true → P f ≡ true → P e ≡ true)
          → Spans (filtered P (forest lt es)) (filtered P es)
      forest-spans-part P down f i =
          greedy-spans P down (filtered P (forest lt es)) [] (ordered lt es) (sorted-ordered lt o es d) (λ g j. elim j [ ])
          (λ g j. in-sift P j) f (in-ordered lt es f (filtered-sub P es f i)) (filtered-test P es f i)

      pub forest-spans : Spans (forest lt es) es
      forest-spans f i =
          greedy-spans (λ _. true) (λ _ _ _ _. refl) (forest lt es) [] (ordered lt es) (sorted-ordered lt o es d) (λ g j. elim j [ ])
          (λ g j _. j) f (in-ordered lt es f i) refl

      -- Kruskal: a link is in the forest exactly if the links before it do not join its ends.
      pub forest-unjoined : (z : Link) → In z (forest lt es) → joins (befores lt z es) z.a.0 z.b.0 ≡ false
      forest-unjoined z i = unjoins (λ j. unjoined (forest-loopfree es z i)
          (joined-mono
          (λ f k. in-others z (filtered-sub (before lt z) (forest lt es) f k)
          (λ q. both_ways (lt z.number z.number) (o.apart z.number) (rw q at (filtered-test (before lt z) (forest lt es) f k))))
          (joined-spans (forest-spans-part (before lt z) (before-down z)) j)))

      pub in-forest : (z : Link) → In z es → joins (befores lt z es) z.a.0 z.b.0 ≡ false → In z (forest lt es)
      in-forest z i n =
          elim (find-num z.number (forest lt es)) [
            | inl t ↦ subst (λ f. In f (forest lt es)) (same-num es d t.0 z (forest-sub es t.0 t.1) i t.2) t.1
            | inr none ↦ absurd (unjoined n (joined-mono
                (λ f k.
                let j = filtered-sub (upto lt z) (forest lt es) f k in
                elim (or_cases (eqb f.number z.number) (before lt z f) (filtered-test (upto lt z) (forest lt es) f k)) [
                  | inl q ↦ absurd (none f j (eqb-true f.number z.number q))
                  | inr q ↦ in-sift (before lt z) (forest-sub es f j) q
                ])
                (forest-spans-part (upto lt z) (upto-down z) z
                (in-sift (upto lt z) i (or_left (eqb z.number z.number) (before lt z z) (eq-eqb z.number z.number refl))))))
          ]

      pub forest-iff : (z : Link) → In z (forest lt es) ↔ (In z es × (joins (befores lt z es) z.a.0 z.b.0 ≡ false))
      forest-iff z = (λ i. (forest-sub es z i, forest-unjoined z i), λ h. in-forest z h.0 h.1)
