use Rattle.std.proofs.Common.{◌≡◌, ℕ, ◌+◌, ◌<◌, true, false, List, [], ◌++◌, reverse, length, get_or, take, set, sym, ap, ◌∙◌, ap₂, arith}
use Rattle.std.proofs.lemmas.Bool.{not-true, not-false, eqb-true}
use Rattle.std.proofs.lemmas.List.{drop-set-lt, length-map, map-set, get_or-map}
use Rattle.block_records.specs.declared.Link.{Link}
use Rattle.graphs.specs.Graph.{joins}
use Rattle.block_records.specs.Words.{no_link, link_of, links_in}
use Rattle.forests.proofs.Parents.{holds-without}
use Rattle.forests.proofs.Greedy.{next-same, sofar-in, sofar-out, sofar-end}
use Rattle.forests.proofs.kruskal.keep_on.Goals as goal
use Rattle.forests.proofs.kruskal.keep_on.Goals.{After-from-link, then-unite, else-unite}

-- The link read is the one that stood there at the start, and its ends are classes' members.
ends : (c : After-from-link) → (c.from-link.result.a.0 < length c.loop-i.classes.parent.now) × (c.from-link.result.b.0 < length c.loop-i.classes.parent.now)
ends c =
    let all : List Link = links_in c.args.links.now in
    let links : List Link = links_in c.loop-i.links in
    let i = c.loop-i.i in
    let la = length-map c.args.links.now link_of in
    let ll = length-map c.loop-i.links link_of in
    let at : get_or links i no_link ≡ c.from-link.result = get_or-map link_of c.loop-i.links i [] no_link (omega arith) ∙ sym c.from-link.ensures in
    let s = (next-same links all i no_link (omega arith) (omega arith) c.loop-i.invariant.1).0 in
    let e = c.requires i (omega arith) no_link in
    let x : c.from-link.result.a.0 ≡ (get_or all i no_link).a.0 = ap (λ (e : Link). e.a.0) (sym at ∙ s) in
    let n = c.loop-i.invariant.2 in
    let y : c.from-link.result.b.0 ≡ (get_or all i no_link).b.0 = ap (λ (e : Link). e.b.0) (sym at ∙ s) in
    (omega arith, omega arith)

pub unite-requires-clause-a_within : goal.unite-requires-clause-a_within
unite-requires-clause-a_within c = (ends (goal.at.unite-requires-clause-a_within c).After-from-link).0

pub unite-requires-clause-b_within : goal.unite-requires-clause-b_within
unite-requires-clause-b_within c = (ends (goal.at.unite-requires-clause-b_within c).After-from-link).1

pub loop-i-preserved : goal.loop-i-preserved
loop-i-preserved c =
    let all : List Link = links_in c.args.links.now in
    let links : List Link = links_in c.loop-i.links in
    let i = c.loop-i.i in
    let k = c.loop-i.k in
    let la = length-map c.args.links.now link_of in
    let ll = length-map c.loop-i.links link_of in
    let low = c.loop-i.invariant.0 in
    let same = c.loop-i.invariant.1 in
    let lt : i < length all = omega arith in
    let e : Link = get_or links i no_link in
    let at : e ≡ c.from-link.result = get_or-map link_of c.loop-i.links i [] no_link (omega arith) ∙ sym c.from-link.ensures in
    let ea : e.a.0 ≡ c.from-link.result.a.0 = ap (λ (e : Link). e.a.0) at in
    let eb : e.b.0 ≡ c.from-link.result.b.0 = ap (λ (e : Link). e.b.0) at in
    let ps2 : List ℕ = c.unite.new.self.parent.now in
    let next = (next-same links all i no_link (omega arith) lt same).1 in
    elim c.if-unite.branch [
      | then-unite w ↦
          let new : links_in c.if-unite.links ≡ set links k e =
          ap links_in w.links-is ∙ map-set link_of c.loop-i.links k (get_or c.loop-i.links i []) ∙ ap (set links k) (sym c.from-link.ensures ∙ sym at) in
          rw (new, w.k-is) (
            omega arith,
            drop-set-lt (i + 1) links k e (omega arith) ∙ next,
            c.unite.ensures.size ∙ c.loop-i.invariant.2,
            c.unite.ensures.lent ∙ c.loop-i.invariant.3,
            λ K h.
                let R = reverse (take k links) ++ K in
                let s = c.loop-i.invariant.4 K h in
                let u = c.unite.ensures.joins R e ea eb s.classes in
                let j : joins R e.a.0 e.b.0 ≡ false = ap₂ (λ x y. joins R x y) ea eb ∙ not-true _ (sym u.0 ∙ w.if-unite.true) in
                sofar-in K all links c.loop-i.classes.parent.now k i no_link low same s lt (omega arith) ps2 j u.1,
          )
      | else-unite w ↦ rw (w.links-is, w.k-is) (
        omega arith,
        next,
        c.unite.ensures.size ∙ c.loop-i.invariant.2,
        c.unite.ensures.lent ∙ c.loop-i.invariant.3,
        λ K h.
            let R = reverse (take k links) ++ K in
            let s = c.loop-i.invariant.4 K h in
            let u = c.unite.ensures.joins R e ea eb s.classes in
            let j : joins R e.a.0 e.b.0 ≡ true = ap₂ (λ x y. joins R x y) ea eb ∙ not-false _ (sym u.0 ∙ w.if-unite.false) in
            sofar-out K all links c.loop-i.classes.parent.now k i no_link low same s lt (omega arith) ps2 j (holds-without e R ps2 (eqb-true _ _ j) u.1),
      )
    ]

pub returns-clause-kept : goal.returns-clause-kept
returns-clause-kept c =
    let la = length-map c.args.links.now link_of in
    λ K h. sofar-end K (links_in c.args.links.now) (links_in c.loop-i.links) c.loop-i.classes.parent.now c.loop-i.k c.loop-i.i (c.loop-i.invariant.4 K h) (omega arith)
