-- Links join all nodes from 1 to n exactly if their least forest has n - 1 links; and spanning trees.
use Rattle.std.proofs.Common.{◌≡◌, ℕ, zero, suc, ◌≤◌, Bool, true, ◌↔◌, List, [], ◌∷◌, length, sym, refl, ap, ◌∙◌, inl, inr, arith}
use Rattle.std.proofs.lemmas.Bool.{cases_eq, and_parts, and_from}
use Rattle.std.proofs.lemmas.Bool.Decides.{nat_tests}
use Rattle.block_records.specs.declared.Link.{Link}
use Rattle.graphs.specs.Graph.{label, joins}
use Rattle.graphs.specs.Forest.{Strict, Distinct, placed, ordered, forest}
use Rattle.graphs.specs.Spanning.{Within, AllJoined, all_joined, SpanningTree}
use Rattle.graphs.specs.Thin.{roots}
use Rattle.graphs.proofs.Joined.{label-le, label-twice, joins-joined, joined-joins, joined-sym, joined-trans}
use Rattle.graphs.proofs.Count.{label-pos, roots-loopfree}
use Rattle.graphs.proofs.Rename.{roots-mono, roots_less}
use Rattle.graphs.proofs.Kruskal.{forest-sub, forest-loopfree, forest-distinct}
use Rattle.graphs.proofs.Optimal.{forest-joins}

-- Links in order are as many as the links.
placed-length : (lt : ℕ → ℕ → Bool) (e : Link) (es : List Link) → length (placed lt e es) ≡ suc (length es)
unfolding placed
placed-length lt e [] = refl
placed-length lt e (f ∷ fs) = let i = placed-length lt e fs in grind (arith, nat_tests)

pub ordered-length : (lt : ℕ → ℕ → Bool) (es : List Link) → length (ordered lt es) ≡ length es
unfolding ordered
ordered-length lt [] = refl
ordered-length lt (e ∷ es) = placed-length lt e (ordered lt es) ∙ ap suc (ordered-length lt es)

module _ (n : ℕ) (es : List Link) (w : Within n es) where
  label-one : label es 1 ≡ 1
  label-one = omega (arith, label-le es 1, label-pos es w 1 (omega arith))

  roots-of-one : (m : ℕ) → ((x : ℕ) → 1 ≤ x → x ≤ suc m → label es x ≡ 1) → roots es (suc m) ≡ 1
  unfolding roots
  roots-of-one zero h = let k = label-one in grind (arith, nat_tests)
  roots-of-one (suc m) h =
      let i = roots-of-one m (λ x p q. h x p (omega arith)) in
      let k = h (suc (suc m)) (omega arith) (omega arith) in
      grind (arith, nat_tests)

  roots-of-more : (x : ℕ) → 2 ≤ x → label es x ≡ x → 2 ≤ roots es x
  unfolding roots
  roots-of-more zero h e = omega arith
  roots-of-more (suc x) h e =
      let p = roots-mono es 1 x (omega arith) in
      let q = roots_less es 0 1 (omega arith) label-one in
      grind (arith, nat_tests)

  -- All nodes are joined exactly if only one of them is the smallest of those joined to it.
  pub joined-roots : 1 ≤ n → AllJoined n es ↔ (roots es n ≡ 1)
  joined-roots h = (to n h, from)
    where
      to : (m : ℕ) → 1 ≤ m → AllJoined m es → roots es m ≡ 1
      to zero h a = omega arith
      to (suc m) h a = roots-of-one m (λ x p q. (joins-joined (a x 1 p q (omega arith) (omega arith))).same ∙ label-one)

      sole : roots es n ≡ 1 → (x : ℕ) → 1 ≤ x → x ≤ n → label es x ≡ 1
      sole r x p q =
          elim (cases_eq (label es x) 1) [
            | inl e ↦ e
            | inr u ↦
                omega (
                  arith,
                  label-pos es w x p,
                  label-le es x,
                  roots-of-more (label es x) (omega (arith, label-pos es w x p)) (label-twice es x),
                  roots-mono es (label es x) n (omega (arith, label-le es x)),
                )
          ]

      from : roots es n ≡ 1 → AllJoined n es
      from r x y p q u v = joined-joins (record { same = sole r x p q ∙ sym (sole r y u v) })

module _ (n : ℕ) (es : List Link) (w : Within n es) (d : Distinct es) (lt : ℕ → ℕ → Bool) (o : Strict lt) (some : 1 ≤ n) where
  forest-within : Within n (forest lt es)
  forest-within e i = w e (forest-sub lt es e i)

  -- Links join all nodes exactly if their forest has n - 1 links.
  pub joined_length : AllJoined n es ↔ (suc (length (forest lt es)) ≡ n)
  joined_length =
      let F = forest lt es in
      let r = roots-loopfree n F forest-within (forest-distinct lt o es d) (forest-loopfree lt es) in
      let j = joined-roots n F forest-within some in
      let same = forest-joins lt o es d in (
        λ a. omega (arith, r, j.0 (λ x y p q u v. same x y ∙ a x y p q u v)),
        λ e x y p q u v. sym (same x y) ∙ j.1 (omega (arith, r, e)) x y p q u v,
      )

-- The test says so.
from-test : (n : ℕ) (es : List Link) → all_joined n es ≡ true → (x : ℕ) → 1 ≤ x → x ≤ n → joins es 1 x ≡ true
unfolding all_joined
from-test zero es t x p q = absurd (omega arith)
from-test (suc n) es t x p q =
    let r = and_parts (joins es 1 (suc n)) (all_joined n es) t in
    elim (cases_eq x (suc n)) [ inl e ↦ rw e r.0 | inr u ↦ from-test n es r.1 x p (omega arith) ]

to-test : (n : ℕ) (es : List Link) → ((x : ℕ) → 1 ≤ x → x ≤ n → joins es 1 x ≡ true) → all_joined n es ≡ true
unfolding all_joined
to-test zero es h = refl
to-test (suc n) es h = and_from _ _ (h (suc n) (omega arith) (omega arith)) (to-test n es (λ x p q. h x p (omega arith)))

pub all-joined : (n : ℕ) (es : List Link) → 1 ≤ n → (all_joined n es ≡ true) ↔ AllJoined n es
all-joined n es h = (
  λ t x y p q u v. joined-joins (joined-trans (joined-sym (joins-joined (from-test n es t x p q))) (joins-joined (from-test n es t y u v))),
  λ a. to-test n es (λ x p q. a 1 x (omega arith) h p q),
)

module _ (n : ℕ) (es : List Link) (w : Within n es) (some : 1 ≤ n) where
  -- All spanning trees have n - 1 links.
  pub tree-size : (t : List Link) → SpanningTree n es t → suc (length t) ≡ n
  tree-size t s =
      let v : Within n t = λ e i. w e (s.chosen e i) in
      omega (arith, roots-loopfree n t v s.apart s.free, (joined-roots n t v some).0 s.joined)

-- The least forest is one, if there is any.
pub forest-tree : (n : ℕ) (es : List Link) → Distinct es → (lt : ℕ → ℕ → Bool) → Strict lt → AllJoined n es → SpanningTree n es (forest lt es)
forest-tree n es d lt o a = record {
  chosen = forest-sub lt es;
  apart = forest-distinct lt o es d;
  free = forest-loopfree lt es;
  joined = λ x y p q u v. forest-joins lt o es d x y ∙ a x y p q u v;
}
