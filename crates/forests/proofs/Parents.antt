-- The classes that a table of parents holds.
use Rattle.std.proofs.Common.{◌≡◌, ℕ, ◌<◌, ◌≤◌, min, max, ◌≢◌, List, [], ◌∷◌, length, get_or, set, sym, refl, ap, ◌∙◌, arith}
use Rattle.std.proofs.lemmas.Bool.Decides.{nat_tests}
use Rattle.block_records.specs.declared.Link.{Link}
use Rattle.graphs.specs.Graph.{label, merged}
use Rattle.forests.specs.Union.{Falls, Holds}
use Rattle.forests.proofs.Table.{set-each}

-- Halving the way at x keeps the parents falling,
pub halved-falls : (ps : List ℕ) (x up next : ℕ) → x < length ps → up ≡ get_or ps x 0 → next ≡ get_or ps up 0 → Falls ps → Falls (set ps x next)
halved-falls ps x up next lt u n f =
    set-each ps x next (λ y v. v ≤ y) lt (λ y h ne. f y h) (omega (arith, f x lt, f up (omega (arith, f x lt))))

-- and the classes.
pub halved : (es : List Link) (ps : List ℕ) (x up next : ℕ) → x < length ps → up ≡ get_or ps x 0 → next ≡ get_or ps up 0 → up ≢ x → Holds es ps → Holds es (set ps x next)
halved es ps x up next lt u n ne h =
    let f1 : up ≤ x = omega (arith, h.falls x lt) in
    let f2 : next ≤ up = omega (arith, h.falls up (omega arith)) in
    let s1 : label es up ≡ label es x = ap (label es) u ∙ h.same x lt in
    let s2 : label es next ≡ label es up = ap (label es) n ∙ h.same up (omega arith) in
    record {
      falls = halved-falls ps x up next lt u n h.falls;
      same = set-each ps x next (λ y v. label es v ≡ label es y) lt (λ y l _. h.same y l) (s2 ∙ s1);
      top = set-each ps x next (λ y v. v ≡ y → label es y ≡ y) lt (λ y l _. h.top y l) (λ e. absurd (ne (omega arith)));
    }

-- Labels p and q merged: where z is a label of its own class, so is what it becomes.
merged-own : (es : List Link) (p q r : ℕ) → label es p ≡ p → label es q ≡ q → label es r ≡ r → merged p q (label es (merged p q r)) ≡ merged p q r
merged-own es p q r hp hq hr = grind (arith, nat_tests)

-- The label of a label is itself.
pub label-label : (es : List Link) (x : ℕ) → label es (label es x) ≡ label es x
unfolding label
label-label [] x = refl
label-label (e ∷ es) x =
    let ha = label-label es e.a.0 in
    let hb = label-label es e.b.0 in
    let hx = label-label es x in
    merged-own es (label es e.a.0) (label es e.b.0) (label es x) ha hb hx

-- A table at the start holds no links.
pub holds-none : (ps : List ℕ) → ((x : ℕ) → x < length ps → get_or ps x 0 ≡ x) → Holds [] ps
unfolding label
holds-none ps own = record {
  falls = λ x h. omega (arith, own x h);
  same = λ x h. own x h;
  top = λ x h _. refl;
}

-- A link whose ends are joined adds nothing.
pub holds-joined : (e : Link) (es : List Link) (ps : List ℕ) → label es e.a.0 ≡ label es e.b.0 → Holds es ps → Holds (e ∷ es) ps
unfolding label
holds-joined e es ps eq h =
    let p = label es e.a.0 in
    let q = label es e.b.0 in
    record {
      falls = h.falls;
      same = λ x l. ap (merged p q) (h.same x l);
      top = λ x l t. let k = h.top x l t in grind (arith, nat_tests);
    }

-- The larger of two labels hung under the smaller.
pub holds-hung : (e : Link) (es : List Link) (ps : List ℕ) (lo hi : ℕ) → hi < length ps → lo < hi → min (label es e.a.0) (label es e.b.0) ≡ lo → max (label es e.a.0) (label es e.b.0) ≡ hi → Holds es ps → Holds (e ∷ es) (set ps hi lo)
unfolding label
holds-hung e es ps lo hi lt apart mn mx h =
    let p = label es e.a.0 in
    let q = label es e.b.0 in
    let hp : label es p ≡ p = label-label es e.a.0 in
    let hq : label es q ≡ q = label-label es e.b.0 in
    record {
      falls = set-each ps hi lo (λ y v. v ≤ y) lt (λ y l _. h.falls y l) (omega arith);
      same = set-each ps hi lo (λ y v. label (e ∷ es) v ≡ label (e ∷ es) y) lt (λ y l _. ap (merged p q) (h.same y l)) (grind (arith, nat_tests));
      top = set-each ps hi lo (λ y v. v ≡ y → label (e ∷ es) y ≡ y) lt (λ y l ne t. let k = h.top y l t in grind (arith, nat_tests)) (λ t. absurd (omega arith));
    }

-- A link whose ends are joined can be left out.
pub holds-without : (e : Link) (es : List Link) (ps : List ℕ) → label es e.a.0 ≡ label es e.b.0 → Holds (e ∷ es) ps → Holds es ps
unfolding label
holds-without e es ps eq h =
    let m : (y : ℕ) → label (e ∷ es) y ≡ label es y = λ y. grind (arith, nat_tests) in
    record {
      falls = h.falls;
      same = λ x l. sym (m (get_or ps x 0)) ∙ h.same x l ∙ m x;
      top = λ x l t. sym (m x) ∙ h.top x l t;
    }
