-- Orders that agree on the numbers of some links give them the same forest, and the same thinned graph.
use Rattle.std.proofs.Common.{◌≡◌, ℕ, Bool, true, false, cond, not, ltb, List, [], ◌∷◌, refl, ap, ◌∙◌, ap₂}
use Rattle.block_records.specs.declared.Link.{Link}
use Rattle.graphs.specs.Graph.{In, here, later}
use Rattle.graphs.specs.Forest.{placed, ordered, greedy, forest, filtered}
use Rattle.graphs.specs.Thin.{Block, holds, either, reduced, named_first, mergeable, roots, relabel, contracted, thinned}
use Rattle.graphs.specs.Thinning.{rest}
use Rattle.graphs.proofs.Joined.{◌⊆◌}
use Rattle.graphs.proofs.Lists.{filtered-sub, ordered-in}
use Rattle.graphs.proofs.Rename.{in-relabel}

-- The two orders agree on the numbers of the links.
abbrev pub AgreeOn : (ℕ → ℕ → Bool) → (ℕ → ℕ → Bool) → List Link → Type 0
AgreeOn lt lt' es = (e f : Link) → In e es → In f es → lt e.number f.number ≡ lt' e.number f.number

block : ℕ → List Link → Block
block n es = record { nodes = n; links = es }

-- A thinned graph has no other numbers.
pub thinned-numbers : {z : Link} (named : ℕ → Bool) (lt : ℕ → ℕ → Bool) (g : Block) → In z (thinned named lt g).links
    → (e : Link) × In e g.links × (e.number ≡ z.number)
unfolding thinned contracted reduced
thinned-numbers {z} named lt g i =
    let rs = reduced named lt g.links in
    let ms = mergeable named lt rs in
    let r = in-relabel ms rs (filtered-sub _ (relabel ms rs) z i) in
    (r.0, filtered-sub _ g.links r.0 r.1, ap (λ (e : Link). e.number) r.2)

module _ (lt lt' : ℕ → ℕ → Bool) where
  placed-agree : (e : Link) (es : List Link) → ((f : Link) → In f es → lt e.number f.number ≡ lt' e.number f.number)
      → placed lt e es ≡ placed lt' e es
  unfolding placed
  placed-agree e [] h = refl
  placed-agree e (f ∷ fs) h =
      ap₂ (λ (b : Bool) (l : List Link). cond b (e ∷ f ∷ fs) (f ∷ l)) (h f here) (placed-agree e fs (λ g i. h g (later i)))

  pub ordered-agree : (es : List Link) → AgreeOn lt lt' es → ordered lt es ≡ ordered lt' es
  unfolding ordered
  ordered-agree [] h = refl
  ordered-agree (e ∷ es) h =
      placed-agree e (ordered lt es) (λ f i. h e f here (later (ordered-in lt es f i)))
      ∙ ap (placed lt' e) (ordered-agree es (λ f g i j. h f g (later i) (later j)))

  pub forest-agree : (es : List Link) → AgreeOn lt lt' es → forest lt es ≡ forest lt' es
  forest-agree es h = ap (greedy []) (ordered-agree es h)

  agree-sub : {A B : List Link} → A ⊆ B → AgreeOn lt lt' B → AgreeOn lt lt' A
  agree-sub s h e f i j = h e f (s e i) (s f j)

  module _ (named : ℕ → Bool) where
    reduced-agree : (es : List Link) → AgreeOn lt lt' es → reduced named lt es ≡ reduced named lt' es
    unfolding reduced
    reduced-agree es h =
        ap (λ (F : List Link). filtered (λ e. either (named e.number) (holds e.number F)) es)
        (forest-agree (rest named es) (agree-sub (filtered-sub (λ e. not (named e.number)) es) h))

    relabel-agree : (ms es : List Link) → AgreeOn lt lt' es → AgreeOn lt lt' (relabel ms es)
    relabel-agree ms es h e f i j =
        let p = in-relabel ms es i in
        let q = in-relabel ms es j in
        rw (← p.2, ← q.2) (h p.0 q.0 p.1 q.1)

module _ (lt lt' : ℕ → ℕ → Bool) (named : ℕ → Bool) where
  mergeable-agree : (es : List Link) → AgreeOn lt lt' es → mergeable named lt es ≡ mergeable named lt' es
  unfolding mergeable
  mergeable-agree es h =
      ap (filtered (λ e. not (named e.number)))
      (forest-agree (named_first named lt) (named_first named lt') es (λ e f i j.
      ap (λ (b : Bool). cond (named e.number) (cond (named f.number) (ltb e.number f.number) true) (cond (named f.number) false b)) (h e f i j)))

  reduced-sub : {es : List Link} → reduced named lt es ⊆ es
  unfolding reduced
  reduced-sub {es} e i = filtered-sub _ es e i

  pub thinned-agree : (g : Block) → AgreeOn lt lt' g.links → thinned named lt g ≡ thinned named lt' g
  unfolding thinned contracted block
  thinned-agree g h =
      let r = reduced named lt g.links in
      let re : r ≡ reduced named lt' g.links = reduced-agree lt lt' named g.links h in
      let hr : AgreeOn lt lt' r = λ e f i j. h e f (reduced-sub e i) (reduced-sub f j) in
      let ms = mergeable named lt r in
      let me : ms ≡ mergeable named lt' (reduced named lt' g.links) = mergeable-agree r hr ∙ ap (mergeable named lt') re in
      ap₂ block (ap (λ (l : List Link). roots l g.nodes) me)
      (reduced-agree lt lt' named (relabel ms r) (relabel-agree lt lt' named ms r hr) ∙ ap (reduced named lt') (ap₂ relabel me re))
