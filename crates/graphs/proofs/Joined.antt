-- Which nodes links join: the laws of labels.
use Rattle.std.proofs.Common.{◌≡◌, ℕ, ◌≤◌, true, eqb, ◌⊎◌, List, [], ◌∷◌, sym, refl, ap, ◌∙◌, subst, ap₂, inl, inr, arith}
use Rattle.std.proofs.lemmas.Bool.{cases_eq, eqb-true, eq-eqb}
use Rattle.std.proofs.lemmas.Bool.Decides.{nat_tests}
use Rattle.block_records.specs.declared.Link.{Link}
use Rattle.graphs.specs.Graph.{merged, label, joins, In, here, later, Walk, stay, along, back}

infix 4 ◌⊆◌
-- That links join x and y. A record, so that antt finds the links and the nodes from its type; `cc` and `omega` see its field.
pub record Joined (es : List Link) (x y : ℕ) : Type 0 where
  pub same : label es x ≡ label es y

-- All links of A are among those of B.
abbrev pub ◌⊆◌ : List Link → List Link → Type 0
A ⊆ B = (e : Link) → In e A → In e B

-- B joins the ends of each link of A.
abbrev pub Spans : List Link → List Link → Type 0
Spans B A = (e : Link) → In e A → Joined B e.a.0 e.b.0

-- What a merge does to labels.
merged-le : (p q r : ℕ) → merged p q r ≤ r
merged-le p q r = grind (arith, nat_tests)

merged-same : (p q r : ℕ) → p ≡ q → merged p q r ≡ r
merged-same p q r h = grind (arith, nat_tests)

merged-ends : (p q : ℕ) → merged p q p ≡ merged p q q
merged-ends p q = grind (arith, nat_tests)

merged-twice : (p q r s : ℕ) → s ≡ merged p q r → merged p q s ≡ s
merged-twice p q r s h = grind (arith, nat_tests)

merged-one : (p q r : ℕ) → (merged p q r ≡ p) ⊎ (merged p q r ≡ q) ⊎ (merged p q r ≡ r)
merged-one p q r =
    elim (cases_eq (merged p q r) p) [
      | inl e ↦ inl e
      | inr n ↦
          elim (cases_eq (merged p q r) q) [ inl e ↦ inr (inl e) | inr m ↦ inr (inr (grind (arith, nat_tests))) ]
    ]

merged-or : (p q r s : ℕ) → merged p q r ≡ merged p q s → (r ≡ s) ⊎ ((r ≡ p) × (q ≡ s)) ⊎ ((r ≡ q) × (p ≡ s))
merged-or p q r s h =
    elim (cases_eq r s) [
      | inl e ↦ inl e
      | inr n ↦
          elim (cases_eq r p) [
            | inl e ↦ inr (inl (e, grind (arith, nat_tests)))
            | inr m ↦ inr (inr (grind (arith, nat_tests), grind (arith, nat_tests)))
          ]
    ]

pub joined-refl : {es : List Link} {x : ℕ} → Joined es x x
joined-refl = record { same = refl }

pub joined-sym : {es : List Link} {x y : ℕ} → Joined es x y → Joined es y x
joined-sym h = record { same = sym h.same }

pub joined-trans : {es : List Link} {x y z : ℕ} → Joined es x y → Joined es y z → Joined es x z
joined-trans h k = record { same = h.same ∙ k.same }

module _ (c : Link) (es : List Link) where
  -- Exchange: with one more link, two nodes were joined already, or each was to one of its ends.
  pub joined-or : {x y : ℕ} → Joined (c ∷ es) x y
      → Joined es x y ⊎ (Joined es x c.a.0 × Joined es c.b.0 y) ⊎ (Joined es x c.b.0 × Joined es c.a.0 y)
  unfolding label
  joined-or {x} {y} h =
      elim (merged-or (label es c.a.0) (label es c.b.0) (label es x) (label es y) h.same) [
        | inl k ↦ inl (record { same = k })
        | inr (inl k) ↦ inr (inl (record { same = k.0 }, record { same = k.1 }))
        | inr (inr k) ↦ inr (inr (record { same = k.0 }, record { same = k.1 }))
      ]

  pub joined-ends : Joined (c ∷ es) c.a.0 c.b.0
  unfolding label
  joined-ends = record { same = merged-ends (label es c.a.0) (label es c.b.0) }

  pub joined-more : {x y : ℕ} → Joined es x y → Joined (c ∷ es) x y
  unfolding label
  joined-more h = record { same = cc }

  -- A link whose ends are joined already changes no label.
  pub label_same : (x : ℕ) → Joined es c.a.0 c.b.0 → label (c ∷ es) x ≡ label es x
  unfolding label
  label_same x h = merged-same (label es c.a.0) (label es c.b.0) (label es x) h.same

pub joined_in : {e : Link} {es : List Link} → In e es → Joined es e.a.0 e.b.0
joined_in {e} (here {es}) = joined-ends e es
joined_in (later {f} {es} h) = joined-more f es (joined_in h)

-- Joined-ness is the least equivalence: whatever takes one value at both ends of each link takes one at joined nodes.
pub joined-least : (f : ℕ → ℕ) (es : List Link) → ((e : Link) → In e es → f e.a.0 ≡ f e.b.0)
    → {x y : ℕ} → Joined es x y → f x ≡ f y
unfolding label
joined-least f [] h j = ap f j.same
joined-least f (e ∷ es) h {x} {y} j =
    let r : (u v : ℕ) → Joined es u v → f u ≡ f v = λ u v k. joined-least f es (λ g i. h g (later i)) k in
    let q = h e here in
    elim (joined-or e es j) [
      | inl k ↦ r x y k
      | inr (inl k) ↦ r x e.a.0 k.0 ∙ q ∙ r e.b.0 y k.1
      | inr (inr k) ↦ r x e.b.0 k.0 ∙ sym q ∙ r e.a.0 y k.1
    ]

pub joined-spans : {A B : List Link} {x y : ℕ} → Spans B A → Joined A x y → Joined B x y
joined-spans {A} {B} h j = record { same = joined-least (label B) A (λ e i. (h e i).same) j }

pub joined-mono : {A B : List Link} {x y : ℕ} → A ⊆ B → Joined A x y → Joined B x y
joined-mono h j = joined-spans (λ e i. joined_in (h e i)) j

pub label-le : (es : List Link) (x : ℕ) → label es x ≤ x
unfolding label
label-le [] x = omega arith
label-le (e ∷ es) x = omega (arith, merged-le (label es e.a.0) (label es e.b.0) (label es x), label-le es x)

pub label-twice : (es : List Link) (x : ℕ) → label es (label es x) ≡ label es x
unfolding label
label-twice [] x = refl
label-twice (e ∷ es) x =
    let p = label es e.a.0 in
    let q = label es e.b.0 in
    let r = label es x in
    let s = merged p q r in
    let kept : label es s ≡ s =
    elim (merged-one p q r) [
      | inl h ↦ let i = label-twice es e.a.0 in cc
      | inr (inl h) ↦ let i = label-twice es e.b.0 in cc
      | inr (inr h) ↦ let i = label-twice es x in cc
    ] in
    ap (merged p q) kept ∙ merged-twice p q r s refl

-- A label is joined to its node, and is the least such.
pub label-joined : (es : List Link) (x : ℕ) → Joined es (label es x) x
label-joined es x = record { same = label-twice es x }

pub label-least : (es : List Link) (x y : ℕ) → Joined es x y → label es x ≤ y
label-least es x y h = omega (arith, label-le es y)

-- Links that join the same nodes give the same labels.
pub label-spans : {A B : List Link} → Spans B A → Spans A B → (x : ℕ) → label A x ≡ label B x
label-spans {A} {B} h k x =
    let i = joined-spans h (label-joined A x) in
    let j = joined-spans k (label-joined B x) in
    omega (arith, label-le B (label A x), label-le A (label B x))

-- Joined-ness is decided by `joins`, and is that there is a walk.
pub joins-joined : {es : List Link} {x y : ℕ} → joins es x y ≡ true → Joined es x y
joins-joined {es} {x} {y} h = record { same = eqb-true (label es x) (label es y) h }

pub joined-joins : {es : List Link} {x y : ℕ} → Joined es x y → joins es x y ≡ true
joined-joins {es} {x} {y} h = eq-eqb (label es x) (label es y) h.same

pub joined-dec : (es : List Link) (x y : ℕ) → Joined es x y ⊎ (Joined es x y → ⊥)
joined-dec es x y = elim (cases_eq (label es x) (label es y)) [ inl e ↦ inl (record { same = e }) | inr n ↦ inr (λ h. n h.same) ]

pub walk-joined : {es : List Link} {x y : ℕ} → Walk es x y → Joined es x y
walk-joined stay = joined-refl
walk-joined (along e i w) = joined-trans (joined_in i) (walk-joined w)
walk-joined (back e i w) = joined-trans (joined-sym (joined_in i)) (walk-joined w)

pub walk-trans : {es : List Link} {x y z : ℕ} → Walk es x y → Walk es y z → Walk es x z
walk-trans stay v = v
walk-trans (along e i w) v = along e i (walk-trans w v)
walk-trans (back e i w) v = back e i (walk-trans w v)

pub walk_more : {c : Link} {es : List Link} {x y : ℕ} → Walk es x y → Walk (c ∷ es) x y
walk_more stay = stay
walk_more (along e i w) = along e (later i) (walk_more w)
walk_more (back e i w) = back e (later i) (walk_more w)

pub joined-walk : (es : List Link) {x y : ℕ} → Joined es x y → Walk es x y
unfolding label
joined-walk [] {x} {y} h = subst (λ v. Walk [] x v) h.same stay
joined-walk (e ∷ es) h =
    elim (joined-or e es h) [
      | inl k ↦ walk_more (joined-walk es k)
      | inr (inl k) ↦ walk-trans (walk_more (joined-walk es k.0)) (along e here (walk_more (joined-walk es k.1)))
      | inr (inr k) ↦ walk-trans (walk_more (joined-walk es k.0)) (back e here (walk_more (joined-walk es k.1)))
    ]

pub joins-walk : {es : List Link} {x y : ℕ} → joins es x y ≡ true → Walk es x y
joins-walk {es} h = joined-walk es (joins-joined h)

pub walk-joins : {es : List Link} {x y : ℕ} → Walk es x y → joins es x y ≡ true
walk-joins w = joined-joins (walk-joined w)

pub walk-sym : {es : List Link} {x y : ℕ} → Walk es x y → Walk es y x
walk-sym {es} w = joined-walk es (joined-sym (walk-joined w))

pub walk-mono : {A B : List Link} {x y : ℕ} → A ⊆ B → Walk A x y → Walk B x y
walk-mono {B} h w = joined-walk B (joined-mono h (walk-joined w))

pub walk-dec : (es : List Link) (x y : ℕ) → Walk es x y ⊎ (Walk es x y → ⊥)
walk-dec es x y = elim (joined-dec es x y) [ inl h ↦ inl (joined-walk es h) | inr n ↦ inr (λ w. n (walk-joined w)) ]

-- Exchange, over walks.
pub walk-or : (c : Link) (es : List Link) {x y : ℕ} → Walk (c ∷ es) x y
    → Walk es x y ⊎ (Walk es x c.a.0 × Walk es c.b.0 y) ⊎ (Walk es x c.b.0 × Walk es c.a.0 y)
walk-or c es w =
    elim (joined-or c es (walk-joined w)) [
      | inl k ↦ inl (joined-walk es k)
      | inr (inl k) ↦ inr (inl (joined-walk es k.0, joined-walk es k.1))
      | inr (inr k) ↦ inr (inr (joined-walk es k.0, joined-walk es k.1))
    ]

-- Links that join each other's ends join the same nodes.
pub joins-spans : {A B : List Link} → Spans B A → Spans A B → (x y : ℕ) → joins A x y ≡ joins B x y
joins-spans h k x y = ap₂ eqb (label-spans h k x) (label-spans h k y)
