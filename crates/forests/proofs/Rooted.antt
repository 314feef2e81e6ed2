-- The roots that a table reaches are the labels of its classes.
use Rattle.std.proofs.Common.{◌≡◌, ℕ, zero, suc, ◌-◌, ◌<◌, ◌≤◌, ◌≢◌, List, length, get_or, sym, refl, ap, ◌∙◌, inl, inr, arith}
use Rattle.std.proofs.lemmas.Bool.{cases_eq, eq-eqb, ne_eqb, cond-true, cond-false}
use Rattle.block_records.specs.declared.Link.{Link}
use Rattle.graphs.specs.Graph.{label}
use Rattle.forests.specs.Union.{Falls, Holds, root_in}

root-top : (ps : List ℕ) (n x : ℕ) → get_or ps x 0 ≡ x → root_in n ps x ≡ x
unfolding root_in
root-top ps zero x e = refl
root-top ps (suc n) x e = cond-true _ _ _ (eq-eqb _ _ e)

root-up : (ps : List ℕ) (n x : ℕ) → get_or ps x 0 ≢ x → root_in (suc n) ps x ≡ root_in n ps (get_or ps x 0)
unfolding root_in
root-up ps n x e = cond-false _ _ _ (ne_eqb _ _ e)

-- More steps than the node's number add nothing.
root-enough : (ps : List ℕ) → Falls ps → (n m x : ℕ) → x ≤ n → x ≤ m → x < length ps → root_in n ps x ≡ root_in m ps x
root-enough ps f zero m x a b l =
    let g = f x l in
    let e : get_or ps x 0 ≡ x = omega arith in root-top ps zero x e ∙ sym (root-top ps m x e)
root-enough ps f (suc n) zero x a b l =
    let g = f x l in
    let e : get_or ps x 0 ≡ x = omega arith in root-top ps (suc n) x e ∙ sym (root-top ps zero x e)
root-enough ps f (suc n) (suc m) x a b l = elim (cases_eq (get_or ps x 0) x) [
  | inl e ↦ root-top ps (suc n) x e ∙ sym (root-top ps (suc m) x e)
  | inr e ↦ let g = f x l in root-up ps n x e ∙ root-enough ps f n m (get_or ps x 0) (omega arith) (omega arith) (omega arith) ∙ sym (root-up ps m x e)
]

pub root-label : (es : List Link) (ps : List ℕ) → Holds es ps → (x : ℕ) → x < length ps → root_in x ps x ≡ label es x
root-label es ps h x l = reach x x (omega arith) l
  where
    reach : (n x : ℕ) → x ≤ n → x < length ps → root_in n ps x ≡ label es x
    reach zero x a l =
        let f = h.falls x l in
        let e : get_or ps x 0 ≡ x = omega arith in
        root-top ps zero x e ∙ sym (h.top x l e)
    reach (suc n) x a l = elim (cases_eq (get_or ps x 0) x) [
      | inl e ↦ root-top ps (suc n) x e ∙ sym (h.top x l e)
      | inr e ↦ let f = h.falls x l in root-up ps n x e ∙ reach n (get_or ps x 0) (omega arith) (omega arith) ∙ h.same x l
    ]

pub label-root : (es : List Link) (ps : List ℕ) → Falls ps → ((x : ℕ) → x < length ps → root_in x ps x ≡ label es x) → Holds es ps
label-root es ps f r = record {
  falls = f;
  same = λ x l. elim (cases_eq (get_or ps x 0) x) [
    | inl e ↦ ap (label es) e
    | inr e ↦
        let g = f x l in
        let up = get_or ps x 0 in
        sym (r up (omega arith)) ∙ root-enough ps f up (x - 1) up (omega arith) (omega arith) (omega arith) ∙ sym (root-up ps (x - 1) x e)
        ∙ ap (λ n. root_in n ps x) (last x (omega arith)) ∙ r x l
  ];
  top = λ x l e. sym (r x l) ∙ root-top ps x x e;
}
  where
    last : (x : ℕ) → 0 < x → suc (x - 1) ≡ x
    last x z = omega arith
