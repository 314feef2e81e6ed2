use Rattle.std.proofs.Common.{◌≡◌, ℕ, ◌<◌, List, [], length, get_or, take, filter, sym, refl, ap, ◌∙◌, subst, arith}
use Rattle.std.proofs.lemmas.List.{take_all, length-map, get_or-map}
use Rattle.block_records.specs.declared.Link.{Link}
use Rattle.block_records.specs.Words.{no_link, link_of, links_in}
use Rattle.graphs.specs.Graph.{In}
use Rattle.forests.specs.Union.{Holds}
use Rattle.forests.proofs.InOrder.{in-get_or}
use Rattle.thinning.specs.Marks.{stacked}
use Rattle.thinning.proofs.Marking.{filtered-kept}
use Rattle.thinning.proofs.Stacking.{stacked-none, stacked-in, stacked-out}
use Rattle.thinning.proofs.contraction.join.Goals as goal
use Rattle.thinning.proofs.contraction.join.Goals.{then-passes, else-passes}

-- The i-th link as it was read.
at : (ws : List (List ℕ)) (i : ℕ) (e : Link) → i < length ws → e ≡ link_of (get_or ws i []) → (get_or (links_in ws) i no_link ≡ e) × In e (links_in ws)
at ws i e l s =
    let n = length-map ws link_of in
    let r : get_or (links_in ws) i no_link ≡ e = get_or-map link_of ws i [] no_link l ∙ sym s in
    (r, subst (λ f. In f (links_in ws)) r (in-get_or (links_in ws) i no_link (omega arith)))

pub loop-words-init : goal.loop-words-init
loop-words-init g c = (refl, refl, λ p t K h. rw (stacked-none K) h)

pub passes-requires : goal.passes-requires
passes-requires g c = c.requires.tests c.from-link.result (at c.args.links.now c.loop-words.words-index _ (omega arith) c.from-link.ensures).1

pub unite-requires-clause-a_within : goal.unite-requires-clause-a_within
unite-requires-clause-a_within g c =
    let b = c.requires.ends c.from-link.result (at c.args.links.now c.loop-words.words-index _ (omega arith) c.from-link.ensures).1 in
    omega (arith, b.0, c.loop-words.invariant.0)

pub unite-requires-clause-b_within : goal.unite-requires-clause-b_within
unite-requires-clause-b_within g c =
    let b = c.requires.ends c.from-link.result (at c.args.links.now c.loop-words.words-index _ (omega arith) c.from-link.ensures).1 in
    omega (arith, b.1, c.loop-words.invariant.0)

pub loop-words-preserved : goal.loop-words-preserved
loop-words-preserved g c =
    let es : List Link = links_in c.args.links.now in
    let i = c.loop-words.words-index in
    let le = length-map c.args.links.now link_of in
    let a = at c.args.links.now i _ (omega arith) c.from-link.ensures in
    let ea : (get_or es i no_link).a.0 ≡ c.from-link.result.a.0 = ap (λ (e : Link). e.a.0) a.0 in
    let eb : (get_or es i no_link).b.0 ≡ c.from-link.result.b.0 = ap (λ (e : Link). e.b.0) a.0 in
    elim c.if-passes.branch [
      | then-passes w ↦ rw w.classes-is (
        w.unite.ensures.size ∙ c.loop-words.invariant.0,
        w.unite.ensures.lent ∙ c.loop-words.invariant.1,
        λ p t K h.
            let q : p (get_or es i no_link).number ≡ c.passes.result = ap (λ (e : Link). p e.number) a.0 ∙ sym (t _ _ a.1 c.passes.ensures) in
            rw (stacked-in (λ e. p e.number) K es i (omega arith) (q ∙ w.if-passes.true))
            (w.unite.ensures.joins (stacked K (filter (λ (e : Link). p e.number) (take i es))) (get_or es i no_link) ea eb (c.loop-words.invariant.2 p t K h)).1,
      )
      | else-passes w ↦ rw w.classes-is (
        c.loop-words.invariant.0,
        c.loop-words.invariant.1,
        λ p t K h.
            let q : p (get_or es i no_link).number ≡ c.passes.result = ap (λ (e : Link). p e.number) a.0 ∙ sym (t _ _ a.1 c.passes.ensures) in
            rw (stacked-out (λ e. p e.number) K es i (omega arith) (q ∙ w.if-passes.false)) (c.loop-words.invariant.2 p t K h),
      )
    ]

pub returns-clause-joins : goal.returns-clause-joins
returns-clause-joins g c =
    let es : List Link = links_in c.args.links.now in
    let i = c.loop-words.words-index in
    let le = length-map c.args.links.now link_of in
    λ p t K h. subst (λ l. Holds (stacked K l) c.loop-words.classes.parent.now) (ap (filter (λ (e : Link). p e.number)) (take_all i es (omega arith)) ∙ filtered-kept _ _) (c.loop-words.invariant.2 p t K h)
