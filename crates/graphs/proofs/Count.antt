-- Counting roots: how many links loop-free ones can be.
use Rattle.std.proofs.Common.{◌≡◌, ℕ, zero, suc, ◌+◌, ◌<◌, ◌≤◌, max, ◌≢◌, ◌⊎◌, List, [], ◌∷◌, length, sym, refl, ◌∙◌, inl, inr, arith}
use Rattle.std.proofs.lemmas.Bool.{cases_eq, cases_lt}
use Rattle.std.proofs.lemmas.Bool.Decides.{nat_tests}
use Rattle.block_records.specs.declared.Link.{Link}
use Rattle.graphs.specs.Graph.{label, here, later}
use Rattle.graphs.specs.Forest.{Distinct, LoopFree}
use Rattle.graphs.specs.Spanning.{Within}
use Rattle.graphs.specs.Thin.{roots}
use Rattle.graphs.proofs.Joined.{Spans, Joined, label-le, label-twice, label-joined, label_same, joined-spans, joined-dec}
use Rattle.graphs.proofs.Loops.{Acyclic, acyclic}

-- A node that is its own label.
abbrev Root : List Link → ℕ → Type 0
Root es x = label es x ≡ x

roots-none : (n : ℕ) → roots [] n ≡ n
unfolding roots label
roots-none zero = refl
roots-none (suc n) = let i = roots-none n in grind (arith, nat_tests)

-- Fewer nodes are roots, and so the count is lower.
roots-mono : (A B : List Link) → ((x : ℕ) → Root B x → Root A x) → (n : ℕ) → roots B n ≤ roots A n
unfolding roots
roots-mono A B h zero = omega arith
roots-mono A B h (suc n) = let i = roots-mono A B h n in let k = h (suc n) in grind (arith, nat_tests)

-- One node less is a root.
module _ (A B : List Link) (m : ℕ) (was : Root A m) (gone : Root B m → ⊥) (some : 1 ≤ m)
    (stays : (x : ℕ) → x ≢ m → (label A x ≡ label B x) ⊎ ((Root A x → ⊥) × (Root B x → ⊥))) where
  roots_less : (n : ℕ) → (n < m → roots B n ≡ roots A n) × (m ≤ n → suc (roots B n) ≡ roots A n)
  unfolding roots
  roots_less zero = (λ _. refl, λ h. omega arith)
  roots_less (suc n) =
      let i = roots_less n in
      elim (cases_eq (suc n) m) [
        | inl e ↦ let w : Root A (suc n) = rw e was in
            let g : Root B (suc n) → ⊥ = rw e gone in
            (λ h. omega arith, λ h. grind (arith, nat_tests))
        | inr e ↦ let k = stays (suc n) e in (grind (arith, nat_tests), grind (arith, nat_tests))
      ]

within-later : {n : ℕ} {c : Link} {A : List Link} → Within n (c ∷ A) → Within n A
within-later w e i = w e (later i)

pub label-pos : {n : ℕ} (es : List Link) → Within n es → (x : ℕ) → 1 ≤ x → 1 ≤ label es x
unfolding label
label-pos [] w x h = h
label-pos (e ∷ es) w x h =
    let i = label-pos es (within-later w) in
    let p = i e.a.0 (w e here).0 in
    let q = i e.b.0 (w e here).2 in
    let r = i x h in
    grind (arith, nat_tests)

-- One more link lowers the number of roots by one if it joins what was not joined, and else leaves it.
module _ (n : ℕ) (c : Link) (A : List Link) (w : Within n (c ∷ A)) where
  pub roots-same : Joined A c.a.0 c.b.0 → roots (c ∷ A) n ≡ roots A n
  roots-same j =
      omega (arith, roots-mono A (c ∷ A) (λ x h. sym (label_same c A x j) ∙ h) n, roots-mono (c ∷ A) A (λ x h. label_same c A x j ∙ h) n)

  pub roots-more : (Joined A c.a.0 c.b.0 → ⊥) → suc (roots (c ∷ A) n) ≡ roots A n
  unfolding label
  roots-more j =
      let p = label A c.a.0 in
      let q = label A c.b.0 in
      let d : p ≢ q = λ h. j (record { same = h }) in
      let pp : label A p ≡ p = label-twice A c.a.0 in
      let qq : label A q ≡ q = label-twice A c.b.0 in
      let was : label A (max p q) ≡ max p q =
      elim (cases_lt p q) [ inl h ↦ let e : max p q ≡ q = omega arith in cc | inr h ↦ let e : max p q ≡ p = omega arith in cc ] in
      (roots_less A (c ∷ A) (max p q) was (λ h. grind (arith, nat_tests))
      (omega (arith, label-pos A (within-later w) c.a.0 (w c here).0))
      (λ x h. let le = label-le A x in elim (cases_eq (label A x) (max p q)) [
        | inl e ↦ inr (λ g. h (sym g ∙ e), λ g. grind (arith, nat_tests))
        | inr u ↦ inl (grind (arith, nat_tests))
      ])
      n).1 (omega (arith, w c here, label-le A c.a.0, label-le A c.b.0))

-- Loop-free links: each is one root less.
roots-acyclic : (n : ℕ) (A : List Link) → Within n A → Acyclic A → roots A n + length A ≡ n
roots-acyclic n [] w l = omega (arith, roots-none n)
roots-acyclic n (e ∷ A) w l = omega (arith, roots-more n e A w l.0, roots-acyclic n A (within-later w) l.1)

pub roots-loopfree : (n : ℕ) (A : List Link) → Within n A → Distinct A → LoopFree A → roots A n + length A ≡ n
roots-loopfree n A w d l = roots-acyclic n A w (acyclic A d l)

-- Any links: each is at most one root less.
pub roots-any : (n : ℕ) (A : List Link) → Within n A → n ≤ roots A n + length A
roots-any n [] w = omega (arith, roots-none n)
roots-any n (e ∷ A) w =
    let i = roots-any n A (within-later w) in
    elim (joined-dec A e.a.0 e.b.0) [ inl j ↦ omega (arith, roots-same n e A w j) | inr j ↦ omega (arith, roots-more n e A w j) ]

-- Links that join more leave fewer roots.
pub roots-spans : (n : ℕ) (A B : List Link) → Spans B A → roots B n ≤ roots A n
roots-spans n A B s = roots-mono A B
    (λ x h. let j = joined-spans s (label-joined A x) in omega (arith, label-le A x, label-le B (label A x))) n
