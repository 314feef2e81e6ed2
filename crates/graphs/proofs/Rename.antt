-- Merged nodes: new nodes are joined exactly if the old ones are, with the merged links.
use Rattle.std.proofs.Common.{◌≡◌, ℕ, zero, suc, ◌<◌, ◌≤◌, Bool, true, false, cond, eqb, List, [], ◌∷◌, ◌++◌, length, sym, refl, ap, ◌∙◌, inl, inr, arith}
use Rattle.std.proofs.lemmas.Bool.{cases_lt, cases_order, eq-eqb, eqb-true}
use Rattle.block_records.specs.declared.Link.{Link}
use Rattle.graphs.specs.Graph.{label, In, here, later, Walk, stay, along, back}
use Rattle.graphs.specs.Forest.{Distinct, filtered}
use Rattle.graphs.specs.Thin.{roots, renamed, relabel}
use Rattle.graphs.specs.Thinning.{relabelled}
use Rattle.graphs.proofs.Joined.{label-twice, walk-trans, joins-walk, walk-joins, walk-sym, walk-mono}
use Rattle.graphs.proofs.Walks.{hop, same-stay, carry, in_left, in_right, in_either, Apart}

-- Smallest nodes are numbered in order.

pub roots-mono : (es : List Link) (m n : ℕ) → m ≤ n → roots es m ≤ roots es n
unfolding roots
roots-mono es m zero h = let e : m ≡ 0 = omega arith in rw e (omega arith)
roots-mono es m (suc n) h =
    elim (cases_lt m (suc n)) [
      | inr g ↦ let e : m ≡ suc n = omega arith in rw e (omega arith)
      | inl l ↦ let r = roots-mono es m n (omega arith) in
          elim (eqb (label es (suc n)) (suc n)) as (λ b. roots es m ≤ cond b (suc (roots es n)) (roots es n))
          [ true ↦ omega arith | false ↦ omega arith ]
    ]

pub roots_less : (es : List Link) (m n : ℕ) → m < n → label es n ≡ n → roots es m < roots es n
unfolding roots
roots_less es m zero h e = absurd (omega arith)
roots_less es m (suc n) h e = rw (eq-eqb (label es (suc n)) (suc n) e) (omega (arith, roots-mono es m n (omega arith)))

pub renamed-label : (es : List Link) (x y : ℕ) → renamed es x ≡ renamed es y → label es x ≡ label es y
renamed-label es x y h =
    elim (cases_order (label es x) (label es y)) [
      | inl e ↦ e
      | inr (inl l) ↦ absurd (omega (arith, roots_less es _ _ l (label-twice es y)))
      | inr (inr l) ↦ absurd (omega (arith, roots_less es _ _ l (label-twice es x)))
    ]

pub renamed-walk : (es : List Link) (x y : ℕ) → renamed es x ≡ renamed es y → Walk es x y
renamed-walk es x y h = joins-walk (eq-eqb _ _ (renamed-label es x y h))

pub walk-renamed : {es : List Link} {x y : ℕ} → Walk es x y → renamed es x ≡ renamed es y
walk-renamed {es} {x} {y} w = ap (λ (n : ℕ). roots es n) (eqb-true _ _ (walk-joins w))

-- Links between merged nodes.

pub moved_in : {e : Link} (ms : List Link) {es : List Link} → In e es → In (relabelled ms e) (relabel ms es)
unfolding relabel
moved_in ms here = here
moved_in ms (later i) = later (moved_in ms i)

pub in-relabel : {z : Link} (ms es : List Link) → In z (relabel ms es) → (e : Link) × In e es × (relabelled ms e ≡ z)
unfolding relabel
in-relabel ms [] i = elim i [ ]
in-relabel {z} ms (e ∷ es) i = go (in-relabel ms es) i refl
  where
    go : {z y : Link} → (In z (relabel ms es) → (e : Link) × In e es × (relabelled ms e ≡ z)) → In z (y ∷ relabel ms es)
        → (relabelled ms e ≡ y) → (e' : Link) × In e' (e ∷ es) × (relabelled ms e' ≡ z)
    go r here q = (e, here, q)
    go r (later j) q = let s = r j in (s.0, later s.1, s.2)

relabel-distinct : (ms es : List Link) → Distinct es → Distinct (relabel ms es)
unfolding relabel
relabel-distinct ms [] d = tt
relabel-distinct ms (e ∷ es) d =
    (λ f i h. let r = in-relabel ms es i in d.0 r.0 r.1 (h ∙ sym (ap (λ (f : Link). f.number) r.2)), relabel-distinct ms es d.1)

pub relabel-apart : (ms : List Link) {es : List Link} → Apart es → Apart (relabel ms es)
relabel-apart ms {es} d = record { distinct = relabel-distinct ms es d.distinct }

pub length-relabel : (ms es : List Link) → length (relabel ms es) ≡ length es
unfolding relabel
length-relabel ms [] = refl
length-relabel ms (e ∷ es) = ap suc (length-relabel ms es)

pub filtered-relabel : (p : ℕ → Bool) (ms es : List Link) → filtered (λ e. p e.number) (relabel ms es) ≡ relabel ms (filtered (λ e. p e.number) es)
unfolding relabel filtered
filtered-relabel p ms [] = refl
filtered-relabel p ms (e ∷ es) = go (p e.number) (filtered-relabel p ms es)
  where
    go : (q : Bool) → filtered (λ e. p e.number) (relabel ms es) ≡ relabel ms (filtered (λ e. p e.number) es)
        → cond q (relabelled ms e ∷ filtered (λ e. p e.number) (relabel ms es)) (filtered (λ e. p e.number) (relabel ms es))
        ≡ relabel ms (cond q (e ∷ filtered (λ e. p e.number) es) (filtered (λ e. p e.number) es))
    go true r = ap (λ (fs : List Link). relabelled ms e ∷ fs) r
    go false r = r

-- Links join old nodes, together with the merged links, exactly if the relabelled links join the new nodes.
pub walk-relabel : (ms es : List Link) {x y : ℕ} → Walk (es ++ ms) x y → Walk (relabel ms es) (renamed ms x) (renamed ms y)
walk-relabel ms es w = carry (λ x. renamed ms x) (λ e i.
    elim (in_either es i) [ inl j ↦ hop (moved_in ms j) | inr j ↦ same-stay (walk-renamed (hop j)) ]) w

pub relabel-walk : (ms es : List Link) {p q : ℕ} → Walk (relabel ms es) p q
    → (x y : ℕ) → renamed ms x ≡ p → renamed ms y ≡ q → Walk (es ++ ms) x y
relabel-walk ms es stay x y hx hy = walk-mono (λ e i. in_right es i) (renamed-walk ms x y (hx ∙ sym hy))
relabel-walk ms es (along e i w) x y hx hy =
    let r = in-relabel ms es i in
    walk-trans (walk-mono (λ f j. in_right es j) (renamed-walk ms x r.0.a.0 (hx ∙ sym (ap (λ (f : Link). f.a.0) r.2))))
    (walk-trans (hop (in_left ms r.1)) (relabel-walk ms es w r.0.b.0 y (ap (λ (f : Link). f.b.0) r.2) hy))
relabel-walk ms es (back e i w) x y hx hy =
    let r = in-relabel ms es i in
    walk-trans (walk-mono (λ f j. in_right es j) (renamed-walk ms x r.0.b.0 (hx ∙ sym (ap (λ (f : Link). f.b.0) r.2))))
    (walk-trans (walk-sym (hop (in_left ms r.1))) (relabel-walk ms es w r.0.a.0 y (ap (λ (f : Link). f.a.0) r.2) hy))
