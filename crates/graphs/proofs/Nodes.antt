-- The nodes of a thinned graph: numbered from 1, each a merged one, and few.
use Rattle.std.proofs.Common.{◌≡◌, ℕ, zero, suc, ◌+◌, ◌<◌, ◌≤◌, max, Bool, List, [], ◌∷◌, ◌++◌, length, refl, ap, ◌∙◌, inl, inr, arith}
use Rattle.std.proofs.lemmas.Bool.{cases_eq, cases_lt}
use Rattle.std.proofs.lemmas.Bool.Decides.{nat_tests}
use Rattle.block_records.specs.declared.Link.{Link}
use Rattle.graphs.specs.Graph.{label, In}
use Rattle.graphs.specs.Forest.{Strict, forest}
use Rattle.graphs.specs.Thin.{Block, reduced, named_first, roots, renamed, relabel, contracted, thinned}
use Rattle.graphs.specs.Thinning.{chosen, relabelled, merges}
use Rattle.graphs.proofs.Joined.{label-le, label-twice, walk-joined}
use Rattle.graphs.specs.Spanning.{Within}
use Rattle.graphs.proofs.Count.{label-pos, roots-spans}
use Rattle.graphs.proofs.Walks.{reroute, sifted, Apart}
use Rattle.graphs.proofs.Spanning.{forest-in}
use Rattle.graphs.proofs.Rename.{roots-mono, roots_less, in-relabel}
use Rattle.graphs.proofs.Reduce.{in-reduced, reduced-apart, bypass}
use Rattle.graphs.proofs.Contract.{in-mergeable}
use Rattle.graphs.proofs.Thinned.{moved_apart}
use Rattle.graphs.proofs.Size.{spanned, few-named}

-- New nodes are within their number, and each is a merged old one.
pub renamed-within : {n : ℕ} (es : List Link) → Within n es → (x : ℕ) → 1 ≤ x → x ≤ n → (1 ≤ renamed es x) × (renamed es x ≤ roots es n)
renamed-within es h x p q = (
  omega (arith, roots_less es 0 (label es x) (label-pos es h x p) (label-twice es x)),
  roots-mono es _ _ (omega (arith, label-le es x)),
)

pub renamed-all : (es : List Link) (n k : ℕ) → 1 ≤ k → k ≤ roots es n → (x : ℕ) × (1 ≤ x) × (x ≤ n) × (renamed es x ≡ k)
unfolding roots
renamed-all es zero k p q = absurd (omega arith)
renamed-all es (suc n) k p q =
    elim (cases_lt (roots es n) k) [
      | inr l ↦ let r = renamed-all es n k p l in (r.0, r.1, omega arith, r.3)
      | inl l ↦ elim (cases_eq (label es (suc n)) (suc n)) [
        | inl e ↦ (suc n, omega arith, omega arith, ap (λ (x : ℕ). roots es x) e ∙ grind (arith, nat_tests))
        | inr m ↦ absurd (grind (arith, nat_tests))
      ]
    ]

pub relabel-within : {n : ℕ} (ms es : List Link) → Within n ms → Within n es → Within (roots ms n) (relabel ms es)
relabel-within ms es hm he e i =
    let r = in-relabel ms es i in
    let w = he r.0 r.1 in
    let a = renamed-within ms hm r.0.a.0 w.0 w.1 in
    let b = renamed-within ms hm r.0.b.0 w.2 w.3 in
    rw (← r.2) (a.0, a.1, b.0, b.1)

-- One link more merges at most two nodes.
roots-step : (c : Link) (es : List Link) (n : ℕ)
    → (n < max (label es c.a.0) (label es c.b.0) → roots es n ≤ roots (c ∷ es) n) × (roots es n ≤ suc (roots (c ∷ es) n))
unfolding roots label
roots-step c es zero = (λ _. omega arith, omega arith)
roots-step c es (suc n) = let i = roots-step c es n in (λ h. grind (arith, nat_tests), grind (arith, nat_tests))

pub roots-more : (bs es : List Link) (n : ℕ) → roots es n ≤ length bs + roots (bs ++ es) n
roots-more [] es n = omega arith
roots-more (b ∷ bs) es n = omega (arith, roots-more bs es n, roots-step b (bs ++ es) n)

module _ (named : ℕ → Bool) (lt : ℕ → ℕ → Bool) (g : Block) (s : Strict lt) (d : Apart g.links) where
  -- At most as many nodes as named links and parts of the graph that no link joins.
  pub thinned-nodes : (thinned named lt g).nodes ≤ length (chosen named g.links) + roots g.links g.nodes
  unfolding thinned contracted
  thinned-nodes =
      let fs = chosen named (forest (named_first named lt) (reduced named lt g.links)) in
      let ms = merges named lt g in
      let n = g.nodes in
      omega (
        arith,
        roots-more fs ms n,
        few-named named lt g s d,
        roots-spans n g.links (fs ++ ms) (λ e i.
            walk-joined (reroute (λ f j. spanned named lt g s d (sifted _ (reduced named lt g.links) j).0)
            (bypass s s (record { same = λ j k p q. refl }) d i))),
      )

  -- The ends of the links stay within the nodes.
  pub thinned-within : Within g.nodes g.links → Within (thinned named lt g).nodes (thinned named lt g).links
  unfolding thinned contracted
  thinned-within h =
      let rs = reduced named lt g.links in
      let w : Within g.nodes rs = λ e i. h e (in-reduced named lt d i).0 in
      λ e i. relabel-within (merges named lt g) rs (λ f j. w f (forest-in _ rs (in-mergeable named lt rs j).0)) w e
      (in-reduced named lt (moved_apart named lt g s d) i).0

  pub thinned-apart : Apart (thinned named lt g).links
  unfolding thinned contracted
  thinned-apart = reduced-apart named lt (moved_apart named lt g s d)

  -- Each link of the thinned graph is a relabelled link of the graph.
  pub in-thinned : {z : Link} → In z (thinned named lt g).links
      → (e : Link) × In e g.links × (relabelled (merges named lt g) e ≡ z)
  unfolding thinned contracted
  in-thinned i =
      let r = in-relabel (merges named lt g) (reduced named lt g.links) (in-reduced named lt (moved_apart named lt g s d) i).0 in
      (r.0, (in-reduced named lt d r.1).0, r.2)
