-- Membership: sifted links, links in order, links by number.
use Rattle.std.proofs.Common.{◌≡◌, ℕ, Bool, true, false, not, eqb, ◌≢◌, ◌⊎◌, List, [], ◌∷◌, sym, refl, inl, inr}
use Rattle.std.proofs.lemmas.Bool.{cases_eq, cond_both, eqb-false, ne_eqb, both_ways, not-true, not_from_false}
use Rattle.block_records.specs.declared.Link.{Link}
use Rattle.graphs.specs.Graph.{In, here, later}
use Rattle.graphs.specs.Forest.{Strict, Distinct, placed, ordered, filtered, others}
use Rattle.graphs.proofs.Joined.{◌⊆◌}

-- A property of the first link and of the later ones is one of all.
pub in-cons : (P : Link → Type 0) {e f : Link} {es : List Link} → In f (e ∷ es) → P e → (In f es → P f) → P f
in-cons P here h k = h
in-cons P (later i) h k = k i

pub sub-cons : {A B : List Link} (e : Link) → A ⊆ B → (e ∷ A) ⊆ (e ∷ B)
sub-cons e h f here = here
sub-cons e h f (later i) = later (h f i)

pub same-num : (es : List Link) → Distinct es → (e f : Link) → In e es → In f es → e.number ≡ f.number → e ≡ f
same-num [] d e f i j h = elim i [ ]
same-num (g ∷ es) d e f here here h = refl
same-num (g ∷ es) d e f here (later j) h = absurd (d.0 f j h)
same-num (g ∷ es) d e f (later i) here h = absurd (d.0 e i (sym h))
same-num (g ∷ es) d e f (later i) (later j) h = same-num es d.1 e f i j h

pub find-num : (k : ℕ) (es : List Link) → ((f : Link) × In f es × (f.number ≡ k)) ⊎ ((f : Link) → In f es → f.number ≢ k)
find-num k [] = inr (λ f i. elim i [ ])
find-num k (e ∷ es) =
    elim (cases_eq e.number k) [
      | inl h ↦ inl (e, here, h)
      | inr n ↦
          elim (find-num k es) [
            | inl t ↦ inl (t.0, later t.1, t.2)
            | inr m ↦ inr (λ f i. in-cons (λ g. g.number ≢ k) i n (m f))
          ]
    ]

module _ (p : Link → Bool) where
  -- The two cases of a filtered's first link.
  pub filtered-step : (P : List Link → Type 0) (e : Link) (es : List Link) → (p e ≡ true → P (e ∷ filtered p es))
      → (p e ≡ false → P (filtered p es)) → P (filtered p (e ∷ es))
  unfolding filtered
  filtered-step P e es h k = cond_both (p e) (e ∷ filtered p es) (filtered p es) P h k

  pub filtered-sub : (es : List Link) → filtered p es ⊆ es
  unfolding filtered
  filtered-sub [] f i = i
  filtered-sub (e ∷ es) f i =
      filtered-step (λ l. In f l → In f (e ∷ es)) e es (λ _. sub-cons e (filtered-sub es) f) (λ _ j. later (filtered-sub es f j)) i

  pub filtered-test : (es : List Link) (f : Link) → In f (filtered p es) → p f ≡ true
  unfolding filtered
  filtered-test [] f i = elim i [ ]
  filtered-test (e ∷ es) f i =
      filtered-step (λ l. In f l → p f ≡ true) e es (λ t j. in-cons (λ g. p g ≡ true) j t (filtered-test es f)) (λ _. filtered-test es f) i

  pub in-sift : {f : Link} {es : List Link} → In f es → p f ≡ true → In f (filtered p es)
  in-sift {f} (here {es}) h = filtered-step (λ l. In f l) f es (λ _. here) (λ n. absurd (both_ways (p f) n h))
  in-sift {f} (later {f = e} {es} i) h = filtered-step (λ l. In f l) e es (λ _. later (in-sift i h)) (λ _. in-sift i h)

  pub filtered-mono : {A B : List Link} → A ⊆ B → filtered p A ⊆ filtered p B
  filtered-mono {A} {B} h f i = in-sift (h f (filtered-sub A f i)) (filtered-test A f i)

  pub filtered-distinct : (es : List Link) → Distinct es → Distinct (filtered p es)
  unfolding filtered
  filtered-distinct [] d = d
  filtered-distinct (e ∷ es) d =
      filtered-step Distinct e es (λ _. (λ f i. d.0 f (filtered-sub es f i), filtered-distinct es d.1)) (λ _. filtered-distinct es d.1)

-- All links but one.
pub others-num : (z : Link) (es : List Link) (f : Link) → In f (others z es) → f.number ≢ z.number
others-num z es f i =
    eqb-false f.number z.number (not-true (eqb f.number z.number) (filtered-test (λ f. not (eqb f.number z.number)) es f i))

pub in-others : (z : Link) {f : Link} {es : List Link} → In f es → f.number ≢ z.number → In f (others z es)
in-others z {f} i n =
    in-sift (λ f. not (eqb f.number z.number)) i (not_from_false (eqb f.number z.number) (ne_eqb f.number z.number n))

module _ (lt : ℕ → ℕ → Bool) where
  -- Links in order, each before all later ones.
  abbrev pub Sorted : List Link → Type 0
  Sorted [] = Unit {0}
  Sorted (e ∷ es) = ((f : Link) → In f es → lt e.number f.number ≡ true) × Sorted es

  placed-step : (P : List Link → Type 0) (e f : Link) (es : List Link) → (lt e.number f.number ≡ true → P (e ∷ f ∷ es))
      → (lt e.number f.number ≡ false → P (f ∷ placed lt e es)) → P (placed lt e (f ∷ es))
  unfolding placed
  placed-step P e f es h k = cond_both (lt e.number f.number) (e ∷ f ∷ es) (f ∷ placed lt e es) P h k

  placed-in : (e : Link) (es : List Link) → placed lt e es ⊆ (e ∷ es)
  unfolding placed
  placed-in e [] g i = i
  placed-in e (f ∷ es) g i =
      placed-step (λ l. In g l → In g (e ∷ f ∷ es)) e f es (λ _ j. j)
      (λ _ j. in-cons (λ g. In g (e ∷ f ∷ es)) j (later here)
      (λ k. in-cons (λ g. In g (e ∷ f ∷ es)) (placed-in e es g k) here (λ m. later (later m)))) i

  in-placed : (e : Link) (es : List Link) → (e ∷ es) ⊆ placed lt e es
  unfolding placed
  in-placed e [] g i = i
  in-placed e (f ∷ es) g i =
      placed-step (λ l. In g l) e f es (λ _. i)
      (λ _. in-cons (λ g. In g (f ∷ placed lt e es)) i (later (in-placed e es e here))
      (λ j. in-cons (λ g. In g (f ∷ placed lt e es)) j here (λ k. later (in-placed e es g (later k)))))

  pub ordered-in : (es : List Link) → ordered lt es ⊆ es
  unfolding ordered
  ordered-in [] f i = i
  ordered-in (e ∷ es) f i = sub-cons e (ordered-in es) f (placed-in e (ordered lt es) f i)

  pub in-ordered : (es : List Link) → es ⊆ ordered lt es
  unfolding ordered
  in-ordered [] f i = i
  in-ordered (e ∷ es) f i = in-placed e (ordered lt es) f (sub-cons e (in-ordered es) f i)

  module _ (o : Strict lt) where
    sorted-placed : (e : Link) (es : List Link) → ((f : Link) → In f es → e.number ≢ f.number) → Sorted es → Sorted (placed lt e es)
    unfolding placed
    sorted-placed e [] d s = (λ f i. elim i [ ], tt)
    sorted-placed e (f ∷ es) d s =
        placed-step Sorted e f es
        (λ h. (λ g i. in-cons (λ g. lt e.number g.number ≡ true) i h (λ j. o.chain e.number f.number g.number h (s.0 g j)), s))
        (λ n. (
          λ g i. in-cons (λ g. lt f.number g.number ≡ true) (placed-in e es g i)
              (elim (o.total e.number f.number) [
                | inl h ↦ absurd (both_ways (lt e.number f.number) n h)
                | inr (inl h) ↦ absurd (d f here h)
                | inr (inr h) ↦ h
              ])
              (s.0 g),
          sorted-placed e es (λ g i. d g (later i)) s.1,
        ))

    pub sorted-ordered : (es : List Link) → Distinct es → Sorted (ordered lt es)
    unfolding ordered
    sorted-ordered [] d = tt
    sorted-ordered (e ∷ es) d = sorted-placed e (ordered lt es) (λ f i. d.0 f (ordered-in es f i)) (sorted-ordered es d.1)

    pub sorted-distinct : (es : List Link) → Sorted es → Distinct es
    sorted-distinct [] s = tt
    sorted-distinct (e ∷ es) s =
        (λ f i h. both_ways (lt e.number e.number) (o.apart e.number) (rw (← h) at (s.0 f i)), sorted-distinct es s.1)
