-- Loop-free links.
use Rattle.std.proofs.Common.{◌≡◌, ℕ, false, not, eqb, ◌≢◌, List, [], ◌∷◌, sym, refl, inl, inr}
use Rattle.std.proofs.lemmas.Bool.{both_ways, ne_eqb}
use Rattle.block_records.specs.declared.Link.{Link}
use Rattle.graphs.specs.Graph.{label, joins, In, here, later}
use Rattle.graphs.specs.Forest.{Distinct, others, LoopFree}
use Rattle.graphs.proofs.Joined.{◌⊆◌, Joined, joined-or, joined-sym, joined-trans, joined_in, joined-mono, joined-joins}
use Rattle.graphs.proofs.Lists.{in-cons, filtered-sub, filtered-mono, others-num, in-others}

-- What a failed test says.
pub unjoined : {es : List Link} {x y : ℕ} → joins es x y ≡ false → Joined es x y → ⊥
unjoined {es} {x} {y} h j = both_ways (joins es x y) h (joined-joins j)

pub unjoins : {es : List Link} {x y : ℕ} → (Joined es x y → ⊥) → joins es x y ≡ false
unjoins {es} {x} {y} h = ne_eqb (label es x) (label es y) (λ e. h (record { same = e }))

pub others-sub : (z : Link) (es : List Link) → others z es ⊆ es
others-sub z es = filtered-sub (λ f. not (eqb f.number z.number)) es

-- Fewer links of loop-free ones are loop-free.
pub loopfree-sub : {A B : List Link} → A ⊆ B → LoopFree B → LoopFree A
loopfree-sub {A} {B} h l z i =
    unjoins (λ j. unjoined (l z (h z i)) (joined-mono (filtered-mono (λ f. not (eqb f.number z.number)) h) j))

others-first : (e : Link) (es : List Link) → others e (e ∷ es) ⊆ es
others-first e es f i =
    in-cons (λ g. g.number ≢ e.number → In g es) (others-sub e (e ∷ es) f i) (λ d. absurd (d refl)) (λ j _. j) (others-num e (e ∷ es) f i)

others-later : (z e : Link) (es : List Link) → others z (e ∷ es) ⊆ (e ∷ others z es)
others-later z e es f i =
    in-cons (λ g. g.number ≢ z.number → In g (e ∷ others z es)) (others-sub z (e ∷ es) f i) (λ _. here) (λ j d. later (in-others z j d))
    (others-num z (e ∷ es) f i)

-- So are loop-free links with one more whose ends they do not join.
pub loopfree-more : (e : Link) (es : List Link) → LoopFree es → (Joined es e.a.0 e.b.0 → ⊥) → LoopFree (e ∷ es)
loopfree-more e es l n z i =
    unjoins (in-cons (λ z. Joined (others z (e ∷ es)) z.a.0 z.b.0 → ⊥) i (λ j. n (joined-mono (others-first e es) j))
    (λ m j.
    let t = joined_in m in
    elim (joined-or e (others z es) (joined-mono (others-later z e es) j)) [
      | inl k ↦ unjoined (l z m) k
      | inr (inl k) ↦ n (loop z t k.0 k.1)
      | inr (inr k) ↦ n (joined-sym (loop z t k.0 k.1))
    ]))
  where
    loop : (z : Link) {x y : ℕ} → Joined es z.a.0 z.b.0 → Joined (others z es) z.a.0 x → Joined (others z es) y z.b.0 → Joined es x y
    loop z t p q =
        joined-trans (joined-sym (joined-mono (others-sub z es) p)) (joined-trans t (joined-sym (joined-mono (others-sub z es) q)))

-- Loop-free links one by one: later ones do not join the ends of an earlier one.
abbrev pub Acyclic : List Link → Type 0
Acyclic [] = Unit {0}
Acyclic (e ∷ es) = (Joined es e.a.0 e.b.0 → ⊥) × Acyclic es

pub acyclic : (es : List Link) → Distinct es → LoopFree es → Acyclic es
acyclic [] d l = tt
acyclic (e ∷ es) d l = (
  λ j. unjoined (l e here) (joined-mono (λ f i. in-others e (later i) (λ h. d.0 f i (sym h))) j),
  acyclic es d.1 (loopfree-sub (λ f i. later i) l),
)
