-- Whether the least forest of at most two links holds a late one.
use Rattle.std.proofs.Common.{◌≡◌, ℕ, ◌≤◌, Bool, true, false, cond, ◌||◌, eqb, ltb, leb, List, [], ◌∷◌, ◌++◌, map, length, Some, None, sym, refl, ap, ◌∙◌, inl, inr, arith}
use Rattle.std.proofs.lemmas.Bool.{cases_Bool, cond-true, cond-false}
use Rattle.block_records.specs.declared.Link.{Link}
use Rattle.graphs.specs.Graph.{label, here}
use Rattle.graphs.specs.Forest.{greedy, ordered, placed}
use Rattle.plans.specs.Places.{place_of, place_before}
use Rattle.plans.specs.Plan.{numbers}
use Rattle.thinning.specs.Marks.{Ascends}
use Rattle.std.specs.List.{list_any}
use Rattle.block_records.specs.Words.{link_of, links_in}
use Rattle.leaves.specs.Leaf.{crossing, winner, leader, late_link}
use Rattle.plans.specs.Tears.{late, torn_at, late_by}
use Rattle.leaves.proofs.Leaves.{only, tree-crossed, tree-open, cross-true}

or-none : (b : Bool) → (b || false) ≡ b
or-none true = refl
or-none false = refl

module _ (absent : ℕ) (ps : List ℕ) where
  late-one : (x : Bool) (e : Link) → late absent ps (numbers (cond x [] (e ∷ []))) ≡ cond x false (leb absent (place_of ps e.number))
  unfolding late_by numbers ordered placed
  late-one true e = refl
  late-one false e = or-none (leb absent (place_of ps e.number))

  late-two : (x y : Bool) (e f : Link) → ltb e.number f.number ≡ true
      → late absent ps (numbers (cond x [] (e ∷ []) ++ cond y [] (f ∷ []))) ≡ (cond x false (leb absent (place_of ps e.number)) || cond y false (leb absent (place_of ps f.number)))
  unfolding late_by numbers ordered placed
  late-two true true e f l = refl
  late-two true false e f l = or-none (leb absent (place_of ps f.number))
  late-two false true e f l = refl
  late-two false false e f l =
      ap (λ (x : List Link). late absent ps (map (λ (e : Link). e.number) x)) (cond-true _ _ _ l)
      ∙ ap (λ b. leb absent (place_of ps e.number) || b) (or-none (leb absent (place_of ps f.number)))

  pub torn-none : (es : List Link) → length es ≡ 0 → false ≡ torn_at absent ps es
  unfolding late_by numbers ordered greedy
  torn-none [] l = refl
  torn-none (e ∷ es) l = absurd (omega arith)

  torn-one : (e : Link) → late_link absent ps e ≡ torn_at absent ps (e ∷ [])
  unfolding ordered placed greedy label
  torn-one e = sym (late-one (eqb e.a.0 e.b.0) e)

  module _ (e f : Link) where
    crossed : crossing e.a.0 e.b.0 f.a.0 f.b.0 ≡ true → torn_at absent ps (e ∷ f ∷ []) ≡ leb absent (place_of ps (winner ps (e ∷ f ∷ [])))
    unfolding late_by
    crossed h = ap (late absent ps) (tree-crossed ps e f h) ∙ or-none (leb absent (place_of ps (winner ps (e ∷ f ∷ []))))

    pub torn-first : crossing e.a.0 e.b.0 f.a.0 f.b.0 ≡ true → place_before ps e.number f.number ≡ true → late_link absent ps e ≡ torn_at absent ps (e ∷ f ∷ [])
    unfolding winner
    torn-first h b =
        let c = cross-true e.a.0 e.b.0 f.a.0 f.b.0 h in
        cond-false _ _ _ c.0 ∙ ap (λ k. leb absent (place_of ps k)) (sym (cond-true _ _ _ h ∙ cond-true _ _ _ b)) ∙ sym (crossed h)

    pub torn-second : crossing e.a.0 e.b.0 f.a.0 f.b.0 ≡ true → place_before ps e.number f.number ≡ false → late_link absent ps f ≡ torn_at absent ps (e ∷ f ∷ [])
    unfolding winner
    torn-second h b =
        let c = cross-true e.a.0 e.b.0 f.a.0 f.b.0 h in
        cond-false _ _ _ c.2 ∙ ap (λ k. leb absent (place_of ps k)) (sym (cond-true _ _ _ h ∙ cond-false _ _ _ b)) ∙ sym (crossed h)

    pub torn-open : crossing e.a.0 e.b.0 f.a.0 f.b.0 ≡ false → ltb e.number f.number ≡ true → (late_link absent ps e || late_link absent ps f) ≡ torn_at absent ps (e ∷ f ∷ [])
    unfolding only
    torn-open h l = sym (ap (late absent ps) (tree-open ps e f l h) ∙ late-two (eqb e.a.0 e.b.0) (eqb f.a.0 f.b.0) e f l)

  -- Of at most two links, where one leads, the forest holds it alone; where none does, it holds all that are not loops.
  pub torn-led : (es : List Link) (x : Link) → leader ps es ≡ Some x → late_link absent ps x ≡ torn_at absent ps es
  unfolding leader
  torn-led [] x h = absurd (let z : ◌≡◌ {A = ℕ} 0 1 = cc in omega arith)
  torn-led (e ∷ []) x h = absurd (let z : ◌≡◌ {A = ℕ} 0 1 = cc in omega arith)
  torn-led (e ∷ f ∷ []) x h = elim (cases_Bool (crossing e.a.0 e.b.0 f.a.0 f.b.0)) [
    | inl t ↦
        let q = sym (cond-true _ _ _ t) ∙ h in
        let p : cond (place_before ps e.number f.number) e f ≡ x = cc in
        elim (cases_Bool (place_before ps e.number f.number)) [
          | inl u ↦ ap (late_link absent ps) (sym (sym (cond-true _ _ _ u) ∙ p)) ∙ torn-first e f t u
          | inr u ↦ ap (late_link absent ps) (sym (sym (cond-false _ _ _ u) ∙ p)) ∙ torn-second e f t u
        ]
    | inr t ↦ absurd (let q = sym (cond-false _ _ _ t) ∙ h in let z : ◌≡◌ {A = ℕ} 0 1 = cc in omega arith)
  ]
  torn-led (e ∷ f ∷ g ∷ es) x h = absurd (let z : ◌≡◌ {A = ℕ} 0 1 = cc in omega arith)

  pub torn-any : (t : List (List ℕ)) → length t ≤ 2 → Ascends (links_in t) → leader ps (links_in t) ≡ None
      → list_any (λ w. late_link absent ps (link_of w)) t ≡ torn_at absent ps (links_in t)
  unfolding leader
  torn-any [] l a h = torn-none [] refl
  torn-any (v ∷ []) l a h = or-none (late_link absent ps (link_of v)) ∙ torn-one (link_of v)
  torn-any (v ∷ w ∷ []) l a h = elim (cases_Bool (crossing (link_of v).a.0 (link_of v).b.0 (link_of w).a.0 (link_of w).b.0)) [
    | inl t ↦ absurd (let q = sym (cond-true _ _ _ t) ∙ h in let z : ◌≡◌ {A = ℕ} 0 1 = cc in omega arith)
    | inr t ↦
        ap (λ b. late_link absent ps (link_of v) || b) (or-none (late_link absent ps (link_of w)))
        ∙ torn-open (link_of v) (link_of w) t (a.0 (link_of w) here)
  ]
  torn-any (u ∷ v ∷ w ∷ t) l a h = absurd (omega arith)
