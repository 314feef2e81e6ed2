-- New numbers of merged nodes, from a table of parents.
use Rattle.std.proofs.Common.{◌≡◌, ℕ, zero, suc, ◌+◌, ◌-◌, ◌<◌, ◌≤◌, eqb, List, [], ◌∷◌, map, length, get_or, set, sym, refl, ap, ◌∙◌, ap₂, inl, inr, arith}
use Rattle.std.proofs.lemmas.List.{get_or-set_same, get_or-set_other}
use Rattle.std.proofs.lemmas.Bool.{cases_eq, eq-eqb, ne_eqb, cond-true, cond-false}
use Rattle.std.proofs.lemmas.Bool.Decides.{nat_tests}
use Rattle.block_records.specs.declared.Link.{Link}
use Rattle.graphs.specs.Graph.{label, here, later}
use Rattle.forests.specs.Union.{Holds}
use Rattle.graphs.specs.Thin.{roots, renamed, relabel}
use Rattle.graphs.specs.Thinning.{relabelled}
use Rattle.block_records.specs.Words.{link}
use Rattle.thinning.specs.Marks.{Below}
use Rattle.thinning.specs.Names.{Renames, through}

-- A label is at most its node.
pub label-low : (es : List Link) (x : ℕ) → label es x ≤ x
unfolding label
label-low [] x = omega arith
label-low (e ∷ es) x = let h = label-low es x in grind (arith, nat_tests)

pub top-root : (es : List Link) (ps : List ℕ) → Holds es ps → (x : ℕ) → x < length ps → eqb (label es x) x ≡ eqb (get_or ps x 0) x
top-root es ps h x l = elim (cases_eq (get_or ps x 0) x) [
  | inl e ↦ eq-eqb _ _ (h.top x l e) ∙ sym (eq-eqb _ _ e)
  | inr n ↦
      let s = h.same x l in
      let f = h.falls x l in
      let w = label-low es (get_or ps x 0) in
      ne_eqb _ _ (λ e. n (omega arith)) ∙ sym (ne_eqb _ _ n)
]

-- One more node that is its own label; one that is not.
pub roots-up : (es : List Link) (ps : List ℕ) (n : ℕ) → Holds es ps → 0 < n → n < length ps → get_or ps n 0 ≡ n → roots es n ≡ roots es (n - 1) + 1
unfolding roots
roots-up es ps zero h z l e = absurd (omega arith)
roots-up es ps (suc n) h z l e =
    let s : suc n - 1 ≡ n = omega arith in
    let c : roots es (suc n) ≡ suc (roots es n) = cond-true _ _ _ (top-root es ps h (suc n) l ∙ eq-eqb _ _ e) in
    rw s (omega arith)

pub roots-level : (es : List Link) (ps : List ℕ) (n : ℕ) → Holds es ps → 0 < n → n < length ps → (get_or ps n 0 ≡ n → ⊥) → roots es n ≡ roots es (n - 1)
unfolding roots
roots-level es ps zero h z l e = absurd (omega arith)
roots-level es ps (suc n) h z l e =
    let s : suc n - 1 ≡ n = omega arith in
    let c : roots es (suc n) ≡ roots es n = cond-false _ _ _ (top-root es ps h (suc n) l ∙ ne_eqb _ _ e) in
    rw s c

pub roots-none : (es : List Link) → roots es 0 ≡ 0
unfolding roots
roots-none es = refl

pub renamed-none : (es : List Link) → renamed es 0 ≡ 0
renamed-none es = let l = label-low es 0 in let z : label es 0 ≡ 0 = omega arith in ap (roots es) z ∙ roots-none es

-- A root is numbered by the roots up to it, and any other node as its parent is.
pub renamed-top : (es : List Link) (ps : List ℕ) (x : ℕ) → Holds es ps → x < length ps → get_or ps x 0 ≡ x → renamed es x ≡ roots es x
renamed-top es ps x h l e = ap (roots es) (h.top x l e)

pub renamed-up : (es : List Link) (ps : List ℕ) (x : ℕ) → Holds es ps → x < length ps → renamed es x ≡ renamed es (get_or ps x 0)
renamed-up es ps x h l = ap (roots es) (sym (h.same x l))

-- One more new number.
pub renames-more : (ms : List Link) (name : List ℕ) (x v : ℕ) → x < length name → Renames ms name x → v ≡ renamed ms x → Renames ms (set name x v) (x + 1)
renames-more ms name x v l r e y m = elim (cases_eq y x) [
  | inl s ↦ ap (λ z. get_or (set name x v) z 0) s ∙ get_or-set_same name x v 0 l ∙ e ∙ ap (renamed ms) (sym s)
  | inr n ↦ get_or-set_other name x y v 0 n ∙ r y (omega arith)
]

-- Links read through a table of new numbers are the relabelled ones.
pub through-relabel : (ms es : List Link) (name : List ℕ) (n : ℕ) → Renames ms name n → Below n es → map (through name) es ≡ relabel ms es
unfolding relabel
through-relabel ms [] name n r b = refl
through-relabel ms (e ∷ es) name n r b =
    let h = b e here in
    let x = r e.a.0 h.0 in
    let y = r e.b.0 h.1 in
    ap₂ (λ (x y : ℕ). link e.number x y ∷ map (through name) es) x y ∙ ap (λ (l : List Link). relabelled ms e ∷ l) (through-relabel ms es name n r (λ f i. b f (later i)))
