-- The entry of a change on at most two links.
use Rattle.std.proofs.Common.{◌≡◌, ℕ, zero, suc, ◌-◌, ◌<◌, ◌≤◌, Bool, true, false, cond, ◌||◌, eqb, ltb, List, [], ◌∷◌, ◌++◌, map, length, set, Some, None, sym, refl, ap, ◌∙◌, ap₂, inl, inr, arith}
use Rattle.std.proofs.lemmas.Bool.{cases_eq, cases_Bool, cond-true, cond-false, both_ways, eq-eqb, ne_eqb}
use Rattle.std.proofs.lemmas.Bool.Decides.{nat_tests}
use Rattle.block_records.specs.declared.Link.{Link}
use Rattle.graphs.specs.Graph.{label, merged, here}
use Rattle.graphs.specs.Forest.{greedy, ordered, placed}
use Rattle.block_records.specs.declared.Move.{Move}
use Rattle.plans.specs.Places.{place_before, placed_at, moved}
use Rattle.plans.specs.Plan.{tree_at, numbers, among, first_but, Entry, entry}
use Rattle.plans.proofs.Ascending.{first-or}
use Rattle.thinning.specs.Marks.{Ascends}
use Rattle.block_records.specs.Words.{link_in, links_in}
use Rattle.leaves.specs.Leaf.{crossing, winner, leader}

-- Two links between the same nodes,
pub cross-true : (a b x y : ℕ) → crossing a b x y ≡ true
    → (eqb a b ≡ false) × (eqb (merged a b x) (merged a b y) ≡ true) × (eqb x y ≡ false) × (eqb (merged x y a) (merged x y b) ≡ true)
cross-true a b x y h = (grind (arith, nat_tests), grind (arith, nat_tests), grind (arith, nat_tests), grind (arith, nat_tests))

-- and any other two.
cross-false : (a b x y : ℕ) → crossing a b x y ≡ false → eqb a b ≡ false → eqb (merged a b x) (merged a b y) ≡ eqb x y
cross-false a b x y h n = grind (arith, nat_tests)

cross-back : (a b x y : ℕ) → crossing a b x y ≡ false → eqb x y ≡ false → eqb (merged x y a) (merged x y b) ≡ eqb a b
cross-back a b x y h n = grind (arith, nat_tests)

-- The least forest of two links in turn.
unfoldable pub only : Link → List Link
only e = cond (eqb e.a.0 e.b.0) [] (e ∷ [])

two : (e f : Link) → greedy [] (e ∷ f ∷ []) ≡ cond (eqb e.a.0 e.b.0) (only f) (e ∷ cond (eqb (merged e.a.0 e.b.0 f.a.0) (merged e.a.0 e.b.0 f.b.0)) [] (f ∷ []))
unfolding greedy label only
two e f = refl

two-crossed : (e f : Link) → eqb e.a.0 e.b.0 ≡ false → eqb (merged e.a.0 e.b.0 f.a.0) (merged e.a.0 e.b.0 f.b.0) ≡ true → greedy [] (e ∷ f ∷ []) ≡ e ∷ []
two-crossed e f n j = two e f ∙ cond-false _ _ _ n ∙ ap (λ (l : List Link). e ∷ l) (cond-true _ _ _ j)

two-open : (e f : Link) → (eqb e.a.0 e.b.0 ≡ false → eqb (merged e.a.0 e.b.0 f.a.0) (merged e.a.0 e.b.0 f.b.0) ≡ eqb f.a.0 f.b.0) → greedy [] (e ∷ f ∷ []) ≡ only e ++ only f
unfolding only
two-open e f h = elim (cases_Bool (eqb e.a.0 e.b.0)) [
  | inl t ↦ two e f ∙ cond-true _ _ _ t ∙ ap (λ (l : List Link). l ++ only f) (sym (cond-true (eqb e.a.0 e.b.0) [] (e ∷ []) t))
  | inr t ↦ two e f ∙ cond-false _ _ _ t ∙ ap (λ b. e ∷ cond b [] (f ∷ [])) (h t) ∙ ap (λ (l : List Link). l ++ only f) (sym (cond-false (eqb e.a.0 e.b.0) [] (e ∷ []) t))
]

one_number : (e : Link) → numbers (e ∷ []) ≡ e.number ∷ []
unfolding numbers ordered placed
one_number e = refl

either_way : (x y : Bool) (e f : Link) → ltb e.number f.number ≡ true
    → numbers (cond x [] (e ∷ []) ++ cond y [] (f ∷ [])) ≡ numbers (cond y [] (f ∷ []) ++ cond x [] (e ∷ []))
unfolding numbers ordered placed
either_way true true e f l = refl
either_way true false e f l = refl
either_way false true e f l = refl
either_way false false e f l =
    let g : ltb f.number e.number ≡ false = grind (arith, nat_tests) in
    ap (map (λ (e : Link). e.number)) (cond-true _ _ _ l ∙ sym (cond-false _ _ _ g))

both : (e f : Link) → ltb e.number f.number ≡ true → numbers (only e ++ only f) ≡ numbers (only f ++ only e)
unfolding only
both e f l = either_way (eqb e.a.0 e.b.0) (eqb f.a.0 f.b.0) e f l

two-ordered : (lt : ℕ → ℕ → Bool) (e f : Link) → ordered lt (e ∷ f ∷ []) ≡ cond (lt e.number f.number) (e ∷ f ∷ []) (f ∷ e ∷ [])
unfolding ordered placed
two-ordered lt e f = refl

module _ (ps : List ℕ) (e f : Link) where
  pub tree-crossed : crossing e.a.0 e.b.0 f.a.0 f.b.0 ≡ true → tree_at ps (e ∷ f ∷ []) ≡ winner ps (e ∷ f ∷ []) ∷ []
  unfolding winner
  tree-crossed h =
      let c = cross-true e.a.0 e.b.0 f.a.0 f.b.0 h in
      let w : cond (crossing e.a.0 e.b.0 f.a.0 f.b.0) (cond (place_before ps e.number f.number) e.number f.number) 0 ≡ cond (place_before ps e.number f.number) e.number f.number = cond-true _ _ _ h in
      ap (λ l. numbers (greedy [] l)) (two-ordered (place_before ps) e f)
      ∙ elim (cases_Bool (place_before ps e.number f.number)) [
        | inl t ↦ ap (λ l. numbers (greedy [] l)) (cond-true _ _ _ t) ∙ ap numbers (two-crossed e f c.0 c.1) ∙ one_number e
            ∙ ap (λ (k : ℕ). k ∷ []) (sym (w ∙ cond-true _ _ _ t))
        | inr t ↦ ap (λ l. numbers (greedy [] l)) (cond-false _ _ _ t) ∙ ap numbers (two-crossed f e c.2 c.3) ∙ one_number f
            ∙ ap (λ (k : ℕ). k ∷ []) (sym (w ∙ cond-false _ _ _ t))
      ]

  pub tree-open : ltb e.number f.number ≡ true → crossing e.a.0 e.b.0 f.a.0 f.b.0 ≡ false → tree_at ps (e ∷ f ∷ []) ≡ numbers (only e ++ only f)
  tree-open l h =
      ap (λ l. numbers (greedy [] l)) (two-ordered (place_before ps) e f)
      ∙ elim (cases_Bool (place_before ps e.number f.number)) [
        | inl t ↦ ap (λ l. numbers (greedy [] l)) (cond-true _ _ _ t) ∙ ap numbers (two-open e f (cross-false e.a.0 e.b.0 f.a.0 f.b.0 h))
        | inr t ↦ ap (λ l. numbers (greedy [] l)) (cond-false _ _ _ t) ∙ ap numbers (two-open f e (cross-back e.a.0 e.b.0 f.a.0 f.b.0 h)) ∙ sym (both e f l)
      ]

entry-same : (xs : List ℕ) → entry xs xs ≡ (0, 0)
entry-same xs =
    let h : first_but xs xs ≡ 0 = elim (first-or xs xs) [ inl r ↦ r.0 | inr r ↦ absurd (both_ways (among (first_but xs xs) xs) r.1 r.0) ] in
    ap₂ (λ (x y : ℕ). (x, y)) h h

entry-singles : (x y : ℕ) → entry (x ∷ []) (y ∷ []) ≡ cond (eqb x y) (0, 0) (x, y)
unfolding first_but among
entry-singles x y = elim (cases_eq x y) [
  | inl e ↦
      let a : cond (eqb x y || false) 0 x ≡ 0 = grind (arith, nat_tests) in
      let b : cond (eqb y x || false) 0 y ≡ 0 = grind (arith, nat_tests) in
      ap₂ (λ (x y : ℕ). (x, y)) a b ∙ sym (cond-true _ _ _ (eq-eqb x y e))
  | inr n ↦
      let a : cond (eqb x y || false) 0 x ≡ x = grind (arith, nat_tests) in
      let b : cond (eqb y x || false) 0 y ≡ y = grind (arith, nat_tests) in
      ap₂ (λ (x y : ℕ). (x, y)) a b ∙ sym (cond-false _ _ _ (ne_eqb x y n))
]

unfoldable pub told : ℕ → ℕ → Entry
told x y = cond (eqb x y) (0, 0) (x, y)

told_none : told 0 0 ≡ (0, 0)
unfolding told
told_none = refl

none-same : (ps qs : List ℕ) → entry (tree_at ps []) (tree_at qs []) ≡ (0, 0)
unfolding ordered
none-same ps qs = entry-same (numbers (greedy [] []))

one_same : (ps qs : List ℕ) (e : Link) → entry (tree_at ps (e ∷ [])) (tree_at qs (e ∷ [])) ≡ (0, 0)
unfolding ordered placed
one_same ps qs e = entry-same (numbers (greedy [] (e ∷ [])))

-- The entry of any change on at most two links.
pub leaf-entry : (ps qs : List ℕ) (es : List Link) → length es ≤ 2 → Ascends es
    → entry (tree_at ps es) (tree_at qs es) ≡ told (winner ps es) (winner qs es)
unfolding winner told
leaf-entry ps qs [] l a = none-same ps qs
leaf-entry ps qs (e ∷ []) l a = one_same ps qs e
leaf-entry ps qs (e ∷ f ∷ []) l a = elim (cases_Bool (crossing e.a.0 e.b.0 f.a.0 f.b.0)) [
  | inl h ↦ ap₂ entry (tree-crossed ps e f h) (tree-crossed qs e f h) ∙ entry-singles (winner ps (e ∷ f ∷ [])) (winner qs (e ∷ f ∷ []))
  | inr h ↦
      let x : winner ps (e ∷ f ∷ []) ≡ 0 = cond-false _ _ _ h in
      let y : winner qs (e ∷ f ∷ []) ≡ 0 = cond-false _ _ _ h in
      ap₂ entry (tree-open ps e f (a.0 f here) h) (tree-open qs e f (a.0 f here) h) ∙ entry-same (numbers (only e ++ only f))
      ∙ sym (ap₂ told x y)
]
leaf-entry ps qs (e ∷ f ∷ g ∷ es) l a = absurd (omega arith)

placed-write : (ps : List ℕ) (k p : ℕ) → 1 ≤ k → set ps (k - 1) p ≡ placed_at ps k p
unfolding placed_at
placed-write ps zero p h = absurd (omega arith)
placed-write ps (suc k) p h = let e : suc k - 1 ≡ k = omega arith in rw e

-- A write at the change's link is the change.
pub moved-is : (ps : List ℕ) (c : Move ℕ) → 1 ≤ c.link → set ps (c.link - 1) c.to ≡ moved ps c
moved-is ps c h = placed-write ps c.link c.to h

-- What the code reads of a table of at most two links.
pub leader-few : (ps : List ℕ) (t : List (List ℕ)) → length t < 2 → None ≡ leader ps (links_in t)
unfolding leader
leader-few ps [] l = refl
leader-few ps (v ∷ []) l = refl
leader-few ps (v ∷ w ∷ t) l = absurd (omega arith)

pub leader-two : (ps : List ℕ) (t : List (List ℕ)) (e f : Link) → e ≡ link_in t 0 → f ≡ link_in t 1 → 2 ≤ length t → length t ≤ 2
    → leader ps (links_in t) ≡ cond (crossing e.a.0 e.b.0 f.a.0 f.b.0) (Some (cond (place_before ps e.number f.number) e f)) None
unfolding leader
leader-two ps [] e f x y l m = absurd (omega arith)
leader-two ps (v ∷ []) e f x y l m = absurd (omega arith)
leader-two ps (v ∷ w ∷ []) e f x y l m =
    ap₂ (λ (e f : Link). cond (crossing e.a.0 e.b.0 f.a.0 f.b.0) (Some (cond (place_before ps e.number f.number) e f)) None) (sym x) (sym y)
leader-two ps (u ∷ v ∷ w ∷ t) e f x y l m = absurd (omega arith)

-- The winner is the leader's number.
pub winner_none : (ps : List ℕ) (es : List Link) → leader ps es ≡ None → 0 ≡ winner ps es
unfolding leader winner
winner_none ps [] h = refl
winner_none ps (e ∷ []) h = refl
winner_none ps (e ∷ f ∷ []) h = elim (cases_Bool (crossing e.a.0 e.b.0 f.a.0 f.b.0)) [
  | inl t ↦ absurd (let q = sym (cond-true _ _ _ t) ∙ h in let z : ◌≡◌ {A = ℕ} 0 1 = cc in omega arith)
  | inr t ↦ sym (cond-false _ _ _ t)
]
winner_none ps (e ∷ f ∷ g ∷ es) h = refl

pub winner_some : (ps : List ℕ) (es : List Link) (x : Link) → leader ps es ≡ Some x → x.number ≡ winner ps es
unfolding leader winner
winner_some ps [] x h = absurd (let z : ◌≡◌ {A = ℕ} 0 1 = cc in omega arith)
winner_some ps (e ∷ []) x h = absurd (let z : ◌≡◌ {A = ℕ} 0 1 = cc in omega arith)
winner_some ps (e ∷ f ∷ []) x h = elim (cases_Bool (crossing e.a.0 e.b.0 f.a.0 f.b.0)) [
  | inl t ↦
      let q = sym (cond-true _ _ _ t) ∙ h in
      let p : cond (place_before ps e.number f.number) e f ≡ x = cc in
      elim (cases_Bool (place_before ps e.number f.number)) [
        | inl u ↦ ap (λ (y : Link). y.number) (sym (sym (cond-true _ _ _ u) ∙ p)) ∙ sym (cond-true _ _ _ t ∙ cond-true _ _ _ u)
        | inr u ↦ ap (λ (y : Link). y.number) (sym (sym (cond-false _ _ _ u) ∙ p)) ∙ sym (cond-true _ _ _ t ∙ cond-false _ _ _ u)
      ]
  | inr t ↦ absurd (let q = sym (cond-false _ _ _ t) ∙ h in let z : ◌≡◌ {A = ℕ} 0 1 = cc in omega arith)
]
winner_some ps (e ∷ f ∷ g ∷ es) x h = absurd (let z : ◌≡◌ {A = ℕ} 0 1 = cc in omega arith)

pub told-level : (x y : ℕ) → x ≡ y → (0, 0) ≡ told x y
unfolding told
told-level x y h = sym (cond-true _ _ _ (eq-eqb x y h))

pub told-apart : (x y : ℕ) → (x ≡ y → ⊥) → (x, y) ≡ told x y
unfolding told
told-apart x y h = sym (cond-false _ _ _ (ne_eqb x y h))
