-- Walks carried over to other links, and members of lists of links.
use Rattle.std.proofs.Common.{◌≡◌, ℕ, Bool, true, false, eqb, ◌⊎◌, List, [], ◌∷◌, ◌++◌, sym, refl, ◌∙◌, inl, inr}
use Rattle.std.proofs.lemmas.Bool.{cases_Bool, both_ways, cond_both, eqb-true, eq-eqb}
use Rattle.block_records.specs.declared.Link.{Link}
use Rattle.graphs.specs.Graph.{In, here, later, Walk, stay, along, back}
use Rattle.graphs.specs.Forest.{Distinct, filtered}
use Rattle.graphs.specs.Thin.{holds}
use Rattle.graphs.proofs.Joined.{walk-trans, walk-sym}
use Rattle.graphs.proofs.Lists.{same-num, filtered-sub, filtered-test, filtered-distinct}

-- Walks.

pub hop : {es : List Link} {e : Link} → In e es → Walk es e.a.0 e.b.0
hop {e = e} i = along e i stay

pub same-stay : {es : List Link} {x y : ℕ} → x ≡ y → Walk es x y
same-stay h = rw h stay

-- A walk carried to other nodes and links.
pub carry : (f : ℕ → ℕ) {es fs : List Link} {x y : ℕ} → ((e : Link) → In e es → Walk fs (f e.a.0) (f e.b.0))
    → Walk es x y → Walk fs (f x) (f y)
carry f h stay = stay
carry f h (along e i w) = walk-trans (h e i) (carry f h w)
carry f h (back e i w) = walk-trans (walk-sym (h e i)) (carry f h w)

pub reroute : {es fs : List Link} {x y : ℕ} → ((e : Link) → In e es → Walk fs e.a.0 e.b.0) → Walk es x y → Walk fs x y
reroute h w = carry (λ x. x) h w

-- Members.

pub in_left : {e : Link} {es : List Link} (fs : List Link) → In e es → In e (es ++ fs)
in_left fs here = here
in_left fs (later i) = later (in_left fs i)

pub in_right : {e : Link} (es : List Link) {fs : List Link} → In e fs → In e (es ++ fs)
in_right [] i = i
in_right (a ∷ es) i = later (in_right es i)

pub in_either : {e : Link} (es : List Link) {fs : List Link} → In e (es ++ fs) → In e es ⊎ In e fs
in_either [] i = inr i
in_either (a ∷ es) here = inl here
in_either (a ∷ es) (later i) = elim (in_either es i) [ inl j ↦ inl (later j) | inr j ↦ inr j ]

pub sifted : {e : Link} (p : Link → Bool) (es : List Link) → In e (filtered p es) → In e es × (p e ≡ true)
sifted {e} p es i = (filtered-sub p es e i, filtered-test p es e i)

-- The link of a number.

pub in-holds : {e : Link} {es : List Link} → In e es → holds e.number es ≡ true
unfolding holds
in-holds {e} here = rw (eq-eqb e.number e.number refl)
in-holds {e} (later {f = f} i) = rw (in-holds i) (cond_both (eqb e.number f.number) true true (λ q. q ≡ true) (λ _. refl) (λ _. refl))

pub holds-in : (k : ℕ) (es : List Link) → holds k es ≡ true → (e : Link) × In e es × (e.number ≡ k)
unfolding holds
holds-in k [] h = absurd (both_ways false refl h)
holds-in k (f ∷ es) h =
    cond_both (eqb k f.number) true (holds k es) (λ q. q ≡ true → (e : Link) × In e (f ∷ es) × (e.number ≡ k))
    (λ t _. (f, here, sym (eqb-true k f.number t))) (λ _ h. let s = holds-in k es h in (s.0, later s.1, s.2)) h

pub held : {e : Link} {es : List Link} {k : ℕ} → In e es → e.number ≡ k → holds k es ≡ true
held i h = rw h at (in-holds i)

pub holds_as : (k : ℕ) (es : List Link) (b : Bool) → ((e : Link) → In e es → e.number ≡ k → b ≡ true) → (b ≡ true → holds k es ≡ true) → holds k es ≡ b
holds_as k es b f g =
    elim (cases_Bool (holds k es)) [
      | inl t ↦ let r = holds-in k es t in t ∙ sym (f r.0 r.1 r.2)
      | inr u ↦ elim (cases_Bool b) [ inl t ↦ absurd (both_ways _ u (g t)) | inr v ↦ u ∙ sym v ]
    ]

-- Distinct links. A record, so that antt finds the links from its type.
pub record Apart (es : List Link) : Type 0 where
  pub distinct : Distinct es

-- Links with one number are one link.
pub sole : {es : List Link} → Apart es → {e f : Link} → In e es → In f es → e.number ≡ f.number → e ≡ f
sole {es} d {e} {f} i j h = same-num es d.distinct e f i j h

pub filtered-apart : (p : Link → Bool) {es : List Link} → Apart es → Apart (filtered p es)
filtered-apart p {es} d = record { distinct = filtered-distinct p es d.distinct }
