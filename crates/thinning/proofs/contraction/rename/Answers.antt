use Rattle.std.proofs.Common.{◌≡◌, ℕ, ◌+◌, ◌-◌, ◌<◌, List, [], ◌++◌, map, length, get_or, take, drop, set, sym, ap, ◌∙◌, arith}
use Rattle.std.proofs.lemmas.List.{length-map, get_or-map, map-set, length-take-le, get_or-append_right, get_or-drop}
use Rattle.std.proofs.lemmas.List.Edits.{map_over_more}
use Rattle.block_records.specs.declared.Link.{Link}
use Rattle.block_records.specs.Words.{no_link, link_of, links_in}
use Rattle.thinning.specs.Names.{through}
use Rattle.thinning.proofs.Marking.{ends-below}
use Rattle.thinning.proofs.contraction.rename.Goals as goal
use Rattle.thinning.proofs.contraction.rename.Goals.{After-from-link}

-- What is still to be renamed is as it was.
unread : (f : Link → Link) (L M : List Link) (i : ℕ) (d : Link) → i < length L → M ≡ map f (take i L) ++ drop i L → get_or M i d ≡ get_or L i d
unread f L M i d l e =
    let t = length-take-le i L (omega arith) in
    let m = length-map (take i L) f in
    let z : i - i ≡ 0 = omega arith in
    let y : i + 0 ≡ i = omega arith in
    ap (λ (x : List Link). get_or x i d) e ∙ get_or-append_right (map f (take i L)) (drop i L) i i d (m ∙ t) (omega arith)
    ∙ ap (λ n. get_or (drop i L) n d) z ∙ get_or-drop i L 0 d ∙ ap (λ n. get_or L n d) y

-- The ends of the link read are below the table's end.
below : (c : After-from-link) → (c.from-link.result.a.0 < length c.args.name.now) × (c.from-link.result.b.0 < length c.args.name.now)
below c =
    let L : List Link = links_in c.args.links.now in
    let i = c.loop-words.words-index in
    let la = length-map c.args.links.now link_of in
    let u = unread (through c.args.name.now) L (links_in c.loop-words.links) i no_link (omega arith) c.loop-words.invariant in
    let a = get_or-map link_of c.loop-words.links i [] no_link (omega arith) ∙ sym c.from-link.ensures in
    let x : c.from-link.result.a.0 ≡ (get_or L i no_link).a.0 = ap (λ (e : Link). e.a.0) (sym a ∙ u) in
    let y : c.from-link.result.b.0 ≡ (get_or L i no_link).b.0 = ap (λ (e : Link). e.b.0) (sym a ∙ u) in
    let b = ends-below _ L c.requires i (omega arith) no_link in
    (omega arith, omega arith)

pub bounds-name-link : goal.bounds-name-link
bounds-name-link c = (below (goal.at.bounds-name-link c).After-from-link).0

pub bounds-name-link-in-loop-words : goal.bounds-name-link-in-loop-words
bounds-name-link-in-loop-words c = (below (goal.at.bounds-name-link-in-loop-words c).After-from-link).1

pub loop-words-preserved : goal.loop-words-preserved
loop-words-preserved c =
    let L : List Link = links_in c.args.links.now in
    let M : List Link = links_in c.loop-words.links in
    let i = c.loop-words.words-index in
    let la = length-map c.args.links.now link_of in
    let e : Link = c.from-link.result in
    let r : e ≡ get_or M i e = c.from-link.ensures ∙ sym (get_or-map link_of c.loop-words.links i [] e (omega arith)) in
    map-set link_of c.loop-words.links i c.into.result ∙ ap (set M i) c.into.ensures ∙ map_over_more (through c.args.name.now) L M i e (omega arith) c.loop-words.invariant r
