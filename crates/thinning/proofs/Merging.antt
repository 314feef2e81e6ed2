-- What thinning gives, from links and others in order.
use Rattle.std.proofs.Common.{◌≡◌, ℕ, zero, suc, ◌<◌, ◌≤◌, Bool, true, false, cond, not, ltb, List, [], ◌∷◌, ◌++◌, sym, refl, ap, ◌∙◌, subst, inl, inr, arith}
use Rattle.std.proofs.lemmas.Bool.{cases_Bool, cond-true, cond-false, eqb-true, not-true, not_from_false, both_ways}
use Rattle.std.proofs.lemmas.Bool.Decides.{nat_tests}
use Rattle.block_records.specs.declared.Link.{Link}
use Rattle.graphs.specs.Graph.{label, joins, In, here, later}
use Rattle.graphs.specs.Forest.{Strict, Distinct, placed, ordered, greedy, forest, filtered}
use Rattle.graphs.specs.Thin.{Block, reduced, named_first, mergeable, roots, relabel, contracted, thinned}
use Rattle.graphs.specs.Thinning.{chosen, rest, relabelled}
use Rattle.graphs.proofs.Joined.{label_same, label-le}
use Rattle.graphs.proofs.Lists.{Sorted, filtered-sub, filtered-test, in-sift, filtered-step, ordered-in, in-ordered, sorted-ordered, sorted-distinct, filtered-distinct}
use Rattle.graphs.proofs.Walks.{Apart, sifted, in_left, in_right, in_either}
use Rattle.graphs.proofs.Orders.{strict-ltb, strict-named}
use Rattle.graphs.proofs.Kruskal.{greedy-sub, forest-sub, forest-sorted}
use Rattle.graphs.proofs.Rename.{in-relabel, filtered-relabel}
use Rattle.graphs.proofs.Reduce.{in-reduced, other-reduced, reduced-apart}
use Rattle.plans.proofs.Absent.{sorted-same}
use Rattle.forests.proofs.Greedy.{greedy-in, greedy-out}
use Rattle.thinning.specs.Marks.{Ascends, Below, Under, stacked}

pub ascends-sorted : (es : List Link) → Ascends es → Sorted ltb es
ascends-sorted [] a = tt
ascends-sorted (e ∷ es) a = (a.0, ascends-sorted es a.1)

pub ascends-distinct : (es : List Link) → Ascends es → Distinct es
ascends-distinct es a = sorted-distinct ltb strict-ltb es (ascends-sorted es a)

pub ascends-filtered : (p : Link → Bool) (es : List Link) → Ascends es → Ascends (filtered p es)
unfolding filtered
ascends-filtered p [] a = tt
ascends-filtered p (e ∷ es) a =
    filtered-step p Ascends e es (λ _. (λ f i. a.0 f (filtered-sub p es f i), ascends-filtered p es a.1)) (λ _. ascends-filtered p es a.1)

pub ascends-relabel : (ms es : List Link) → Ascends es → Ascends (relabel ms es)
unfolding relabel
ascends-relabel ms [] a = tt
ascends-relabel ms (e ∷ es) a = (
  (λ f i. let r = in-relabel ms es i in subst (λ n. ltb e.number n ≡ true) (ap (λ (g : Link). g.number) r.2) (a.0 r.0 r.1)),
  ascends-relabel ms es a.1,
)

-- Lists in order, one after the other.
sorted-append : (lt : ℕ → ℕ → Bool) (A B : List Link) → Sorted lt A → Sorted lt B → ((e f : Link) → In e A → In f B → lt e.number f.number ≡ true) → Sorted lt (A ++ B)
sorted-append lt [] B a b h = b
sorted-append lt (e ∷ A) B a b h = (
  (λ f i. elim (in_either A i) [ inl j ↦ a.0 f j | inr j ↦ h e f here j ]),
  sorted-append lt A B a.1 b (λ g f i j. h g f (later i) j),
)

sorted-other : (lt lt' : ℕ → ℕ → Bool) (es : List Link) → ((e f : Link) → In e es → In f es → lt e.number f.number ≡ true → lt' e.number f.number ≡ true) → Sorted lt es → Sorted lt' es
sorted-other lt lt' [] h s = tt
sorted-other lt lt' (e ∷ es) h s = ((λ f i. h e f here (later i) (s.0 f i)), sorted-other lt lt' es (λ g f i j. h g f (later i) (later j)) s.1)

filtered-sorted : (lt : ℕ → ℕ → Bool) (p : Link → Bool) (es : List Link) → Sorted lt es → Sorted lt (filtered p es)
unfolding filtered
filtered-sorted lt p [] s = tt
filtered-sorted lt p (e ∷ es) s =
    filtered-step p (Sorted lt) e es (λ _. (λ f i. s.0 f (filtered-sub p es f i), filtered-sorted lt p es s.1)) (λ _. filtered-sorted lt p es s.1)

module _ (nm : ℕ → Bool) (lt : ℕ → ℕ → Bool) (o : Strict lt) (es : List Link) where
  -- The others that a reduction keeps, in order, are their forest.
  pub ordered-reduced : Distinct es → ordered lt (rest nm (reduced nm lt es)) ≡ forest lt (rest nm es)
  ordered-reduced d =
      let ap' : Apart es = record { distinct = d } in
      let dr : Distinct (rest nm es) = filtered-distinct _ es d in
      sorted-same lt o (ordered lt (rest nm (reduced nm lt es))) (forest lt (rest nm es))
      (sorted-ordered lt o (rest nm (reduced nm lt es)) (filtered-distinct _ (reduced nm lt es) (reduced-apart nm lt ap').distinct))
      (forest-sorted lt o (rest nm es) dr)
      (λ e i.
      let a = ordered-in lt (rest nm (reduced nm lt es)) e i in
      let b = sifted _ (reduced nm lt es) a in
      elim (in-reduced nm lt ap' b.0).1 [
        | inl t ↦ absurd (both_ways (nm e.number) (not-true _ b.1) t)
        | inr j ↦ j
      ])
      (λ e i.
      let b = sifted _ es (forest-sub lt (rest nm es) e i) in
      in-ordered lt (rest nm (reduced nm lt es)) e (in-sift _ (other-reduced nm lt ap' i) b.1))

  -- Named links first: they come by number, and the others after them in their order.
  ordered-named : Ascends es → ordered (named_first nm lt) es ≡ chosen nm es ++ ordered lt (rest nm es)
  ordered-named a =
      let d = ascends-distinct es a in
      let s = strict-named nm lt o in
      sorted-same (named_first nm lt) s (ordered (named_first nm lt) es) (chosen nm es ++ ordered lt (rest nm es))
      (sorted-ordered (named_first nm lt) s es d)
      (sorted-append (named_first nm lt) (chosen nm es) (ordered lt (rest nm es))
      (sorted-other ltb (named_first nm lt) (chosen nm es) (λ e f i j h. let p = filtered-test _ es e i in let q = filtered-test _ es f j in grind (arith, nat_tests)) (filtered-sorted ltb _ es (ascends-sorted es a)))
      (sorted-other lt (named_first nm lt) (ordered lt (rest nm es)) (λ e f i j h. let p = not-true _ (filtered-test _ es e (ordered-in lt (rest nm es) e i)) in let q = not-true _ (filtered-test _ es f (ordered-in lt (rest nm es) f j)) in grind (arith, nat_tests))
      (sorted-ordered lt o (rest nm es) (filtered-distinct _ es d)))
      (λ e f i j. let p = filtered-test _ es e i in let q = not-true _ (filtered-test _ es f (ordered-in lt (rest nm es) f j)) in grind (arith, nat_tests)))
      (λ e i. let m = ordered-in (named_first nm lt) es e i in
      elim (cases_Bool (nm e.number)) [
        | inl t ↦ in_left (ordered lt (rest nm es)) (in-sift _ m t)
        | inr t ↦ in_right (chosen nm es) (in-ordered lt (rest nm es) e (in-sift _ m (not_from_false _ t)))
      ])
      (λ e i. in-ordered (named_first nm lt) es e (elim (in_either (chosen nm es) i) [
        | inl j ↦ filtered-sub _ es e j
        | inr j ↦ filtered-sub _ es e (ordered-in lt (rest nm es) e j)
      ]))

label-more : (K K' : List Link) (e : Link) → ((x : ℕ) → label K x ≡ label K' x) → (x : ℕ) → label (e ∷ K) x ≡ label (e ∷ K') x
unfolding label
label-more K K' e h x =
    let a = h e.a.0 in
    let b = h e.b.0 in
    let c = h x in
    cc

-- Greedy choices depend on labels only.
greedy-label : (K K' B : List Link) → ((x : ℕ) → label K x ≡ label K' x) → greedy K B ≡ greedy K' B
unfolding greedy
greedy-label K K' [] h = refl
greedy-label K K' (e ∷ B) h =
    let a = h e.a.0 in
    let b = h e.b.0 in
    let r = greedy-label K K' B h in
    let s = greedy-label (e ∷ K) (e ∷ K') B (label-more K K' e h) in
    cc

filtered-all : (q : Link → Bool) (es : List Link) → ((e : Link) → In e es → q e ≡ true) → filtered q es ≡ es
unfolding filtered
filtered-all q [] h = refl
filtered-all q (e ∷ es) h = cond-true _ _ _ (h e here) ∙ ap (λ (l : List Link). e ∷ l) (filtered-all q es (λ f i. h f (later i)))

filtered-drop : (q : Link → Bool) (e : Link) (es : List Link) → q e ≡ false → filtered q (e ∷ es) ≡ filtered q es
unfolding filtered
filtered-drop q e es h = cond-false _ _ _ h

-- Of links after others: those that the choice takes.
greedy-after : (q : Link → Bool) (B : List Link) → ((e : Link) → In e B → q e ≡ true) → (K K' A : List Link) → ((x : ℕ) → label K x ≡ label K' x)
    → ((e : Link) → In e A → q e ≡ false) → filtered q (greedy K (A ++ B)) ≡ greedy (stacked K' A) B
unfolding stacked
greedy-after q B p K K' [] h n = filtered-all q (greedy K B) (λ e i. p e (greedy-sub K B e i)) ∙ greedy-label K K' B h
greedy-after q B p K K' (e ∷ A) h n = elim (cases_Bool (joins K e.a.0 e.b.0)) [
  | inl j ↦ ap (filtered q) (greedy-out K (A ++ B) e j)
      ∙ greedy-after q B p K (e ∷ K') A
      (λ x. h x ∙ sym (label_same e K' x (record { same = sym (h e.a.0) ∙ eqb-true _ _ j ∙ h e.b.0 })))
      (λ f i. n f (later i))
  | inr j ↦ ap (filtered q) (greedy-in K (A ++ B) e j) ∙ filtered-drop q e (greedy (e ∷ K) (A ++ B)) (n e here)
      ∙ greedy-after q B p (e ∷ K) (e ∷ K') A (label-more K K' e h) (λ f i. n f (later i))
]

pub mergeable-is : (nm : ℕ → Bool) (lt : ℕ → ℕ → Bool) → Strict lt → (es : List Link) → Ascends es
    → greedy (stacked [] (chosen nm es)) (ordered lt (rest nm es)) ≡ mergeable nm lt es
unfolding mergeable
mergeable-is nm lt o es a =
    sym (ap (λ l. filtered (λ e. not (nm e.number)) (greedy [] l)) (ordered-named nm lt o es a)
    ∙ greedy-after (λ e. not (nm e.number)) (ordered lt (rest nm es)) (λ e i. filtered-test _ es e (ordered-in lt (rest nm es) e i)) [] [] (chosen nm es) (λ x. refl)
    (λ e i. let t = filtered-test _ es e i in grind (arith, nat_tests)))

-- Renaming keeps the order.
placed-relabel : (lt : ℕ → ℕ → Bool) (ms : List Link) (e : Link) (es : List Link) → placed lt (relabelled ms e) (relabel ms es) ≡ relabel ms (placed lt e es)
unfolding placed relabel
placed-relabel lt ms e [] = refl
placed-relabel lt ms e (f ∷ es) = go (lt e.number f.number) (placed-relabel lt ms e es)
  where
    go : (b : Bool) → placed lt (relabelled ms e) (relabel ms es) ≡ relabel ms (placed lt e es)
        → cond b (relabelled ms e ∷ relabelled ms f ∷ relabel ms es) (relabelled ms f ∷ placed lt (relabelled ms e) (relabel ms es))
        ≡ relabel ms (cond b (e ∷ f ∷ es) (f ∷ placed lt e es))
    go true h = refl
    go false h = ap (λ (l : List Link). relabelled ms f ∷ l) h

ordered-relabel : (lt : ℕ → ℕ → Bool) (ms es : List Link) → ordered lt (relabel ms es) ≡ relabel ms (ordered lt es)
unfolding ordered relabel
ordered-relabel lt ms [] = refl
ordered-relabel lt ms (e ∷ es) = ap (placed lt (relabelled ms e)) (ordered-relabel lt ms es) ∙ placed-relabel lt ms e (ordered lt es)

pub others-relabel : (nm : ℕ → Bool) (lt : ℕ → ℕ → Bool) (ms es os : List Link) → os ≡ ordered lt (rest nm es)
    → relabel ms os ≡ ordered lt (rest nm (relabel ms es))
others-relabel nm lt ms es os h =
    ap (relabel ms) h ∙ sym (ap (ordered lt) (filtered-relabel (λ k. not (nm k)) ms es) ∙ ordered-relabel lt ms (rest nm es))

-- Renamed ends stay below what they were below, and numbers stay.
pub roots-low : (es : List Link) (n : ℕ) → roots es n ≤ n
unfolding roots
roots-low es zero = omega arith
roots-low es (suc n) = let h = roots-low es n in grind (arith, nat_tests)

pub below-relabel : (p : ℕ) (ms es : List Link) → Below p es → Below p (relabel ms es)
below-relabel p ms es w e i =
    let r = in-relabel ms es i in
    let h = w r.0 r.1 in
    let a = ap (λ (f : Link). f.a.0) r.2 in
    let b = ap (λ (f : Link). f.b.0) r.2 in
    (omega (arith, roots-low ms (label ms r.0.a.0), label-le ms r.0.a.0), omega (arith, roots-low ms (label ms r.0.b.0), label-le ms r.0.b.0))

pub under-relabel : (m : ℕ) (ms es : List Link) → Under m es → Under m (relabel ms es)
under-relabel m ms es u e i = let r = in-relabel ms es i in subst (λ n. n < m) (ap (λ (f : Link). f.number) r.2) (u r.0 r.1)

pub ascends-reduced : (nm : ℕ → Bool) (lt : ℕ → ℕ → Bool) (es : List Link) → Ascends es → Ascends (reduced nm lt es)
unfolding reduced
ascends-reduced nm lt es a = ascends-filtered _ es a

-- The thinned block, from its parts.
pub block-is : (nm : ℕ → Bool) (lt : ℕ → ℕ → Bool) (n : ℕ) (es es' : List Link) (m : ℕ) (fs : List Link) → es' ≡ reduced nm lt es
    → m ≡ roots (mergeable nm lt es') n → fs ≡ reduced nm lt (relabel (mergeable nm lt es') es')
    → ◌≡◌ {A = Block} (record { nodes = m; links = fs }) (thinned nm lt (record { nodes = n; links = es }))
unfolding thinned contracted
block-is nm lt n es es' m fs e p q = cc
