-- The present links, listed by index, are those of the network's graph.
use Rattle.std.proofs.Common.{◌≡◌, ℕ, zero, suc, ◌+◌, ◌<◌, ◌≤◌, Bool, true, false, List, [], ◌∷◌, ◌++◌, map, length, get_or, take, drop, sym, refl, ap, ◌∙◌, subst, ap₂, inl, inr, add-one, arith, length-drop}
use Rattle.std.proofs.lemmas.List.{get_or-map, drop_more, take_all, take-append-le, length-map, map-append}
use Rattle.std.proofs.lemmas.Bool.{cases_Bool, cond_both, cond-true, cond-false}
use Rattle.weights.specs.declared.standing.Standing.{Standing}
use Rattle.weights.specs.declared.standing.Standing.TheVariants.{Absent}
use Rattle.network.specs.declared.types.Ends.{Ends}
use Rattle.network.specs.declared.types.LinkState.{LinkState}
use Rattle.block_records.specs.declared.Link.{Link}
use Rattle.graphs.specs.Graph.{In, here, later}
use Rattle.graphs.specs.Forest.{Distinct, ordered, filtered}
use Rattle.graphs.proofs.Lists.{filtered-sub, filtered-distinct, ordered-in}
use Rattle.plans.specs.Places.{value_of}
use Rattle.plans.specs.Network.{graph_from, graph_of, is_at, standing_if, standing_of, standing_at, present_links}
use Rattle.plans.proofs.Standings.{graph-distinct}
use Rattle.block_records.specs.Words.{link_of, links_in}
use Rattle.forests.specs.Union.{Ends as EndsBelow}
use Rattle.forests.proofs.InOrder.{in-get_or}
use Rattle.drawing.specs.Tree.{no_ends, present_indexes, link_at, EndsUnder}

is-present : {W : Type 0} (b : Bool) (w : W) → is_at (standing_if b w) ≡ b
is-present true w = refl
is-present false w = refl

-- What follows index i in a list that is not at its end there.
next : {X : Type 0} (xs ys : List X) (y : X) (i : ℕ) → drop i xs ≡ y ∷ ys → (i < length xs) × (get_or xs i y ≡ y) × (drop (i + 1) xs ≡ ys)
next xs ys y i e =
    let n : length (drop i xs) ≡ suc (length ys) = ap length e in
    let l : i < length xs = omega (arith, length-drop i xs) in
    let d = drop_more xs i y l in
    (l, (cc), (cc))

module _ {W : Type 0} (ends : List Ends) (links : List (LinkState W)) where
  abbrev here-now : Link → Bool
  here-now e = is_at (standing_at links e.number)

  flag_at : (i : ℕ) (s : LinkState W) → i < length links → get_or links i s ≡ s → here-now (link_at ends i) ≡ s.present
  unfolding value_of
  flag_at i s l e =
      let f : LinkState W → Standing W = λ l. standing_of l in
      ap is_at (get_or-map f links i s Absent l ∙ ap f e) ∙ is-present s.present s.weight

  listed : (ss : List (LinkState W)) (es : List Ends) (i : ℕ) → drop i links ≡ ss → drop i ends ≡ es → length ss ≡ length es
      → map (link_at ends) (present_indexes i ss) ≡ filtered here-now (graph_from (suc i) es)
  unfolding present_indexes filtered graph_from
  listed [] [] i p q n = refl
  listed [] (e ∷ es) i p q n = absurd (omega arith)
  listed (s ∷ ss) [] i p q n = absurd (omega arith)
  listed (s ∷ ss) (e ∷ es) i p q n =
      let u = next links ss s i p in
      let v = next ends es e i q in
      let a : suc (i + 1) ≡ suc (suc i) = ap suc (add-one i) in
      let r : map (link_at ends) (present_indexes (i + 1) ss) ≡ filtered here-now (graph_from (suc (suc i)) es) =
      subst (λ k. map (link_at ends) (present_indexes (i + 1) ss) ≡ filtered here-now (graph_from k es)) a (listed ss es (i + 1) u.2 v.2 (omega arith)) in
      let g : Link = record { number = suc i; a = record { 0 = e.a.0 }; b = record { 0 = e.b.0 } } in
      let same : link_at ends i ≡ g = λ t. record { number = suc i; a = record { 0 = (sought v t).a.0 }; b = record { 0 = (sought v t).b.0 } } in
      let f : here-now g ≡ s.present = flag_at i s u.0 u.1 in
      elim (cases_Bool s.present) [
        | inl t ↦
            ap (map (link_at ends)) (cond-true s.present (i ∷ present_indexes (i + 1) ss) (present_indexes (i + 1) ss) t)
            ∙ ap₂ (λ (x : Link) (xs : List Link). x ∷ xs) same r
            ∙ sym (cond-true (here-now g) (g ∷ filtered here-now (graph_from (suc (suc i)) es)) (filtered here-now (graph_from (suc (suc i)) es)) (f ∙ t))
        | inr t ↦
            ap (map (link_at ends)) (cond-false s.present (i ∷ present_indexes (i + 1) ss) (present_indexes (i + 1) ss) t)
            ∙ r
            ∙ sym (cond-false (here-now g) (g ∷ filtered here-now (graph_from (suc (suc i)) es)) (filtered here-now (graph_from (suc (suc i)) es)) (f ∙ t))
      ]
    where
      no_ends-same : (xs : List Ends) (i : ℕ) (d d' : Ends) → i < length xs → get_or xs i d ≡ get_or xs i d'
      no_ends-same [] i d d' l = absurd (omega arith)
      no_ends-same (x ∷ xs) zero d d' l = refl
      no_ends-same (x ∷ xs) (suc i) d d' l = no_ends-same xs i d d' (omega arith)

      sought : (i < length ends) × (get_or ends i e ≡ e) × (drop (i + 1) ends ≡ es) → get_or ends i no_ends ≡ e
      sought v = no_ends-same ends i no_ends e v.0 ∙ v.1

  -- The links of the present indexes are the present links.
  pub present-listed : length links ≡ length ends → map (link_at ends) (present_indexes 0 links) ≡ present_links links (graph_of ends)
  present-listed n = listed links ends 0 refl refl n

-- Numbers from i on, the first of them i.
headed : (i b : ℕ) (xs : List ℕ) → i < b → ((k : ℕ) → k < length xs → get_or xs k 0 < b) → (k : ℕ) → k < length (i ∷ xs) → get_or (i ∷ xs) k 0 < b
headed i b xs h f zero l = h
headed i b xs h f (suc k) l = f k (omega arith)

-- Present indexes are those of links.
pub present-below : {W : Type 0} (i : ℕ) (links : List (LinkState W)) (k : ℕ) → k < length (present_indexes i links) → get_or (present_indexes i links) k 0 < i + length links
unfolding present_indexes
present-below i [] k l = absurd (omega arith)
present-below i (s ∷ ss) k l =
    let R = present_indexes (i + 1) ss in
    let more : (k : ℕ) → k < length R → get_or R k 0 < i + suc (length ss) = λ k m. omega (arith, present-below (i + 1) ss k m) in
    cond_both s.present (i ∷ R) R (λ xs. (k : ℕ) → k < length xs → get_or xs k 0 < i + suc (length ss)) (λ _. headed i (i + suc (length ss)) R (omega arith) more) (λ _. more) k l

graph-between : (n k : ℕ) (ends : List Ends) → EndsUnder n ends → (e : Link) → In e (graph_from k ends) → (e.a.0 < n) × (e.b.0 < n)
unfolding graph_from
graph-between n k [] b e i = elim i [ ]
graph-between n k (x ∷ ends) b e here = b 0 (omega arith)
graph-between n k (x ∷ ends) b e (later i) = graph-between n (suc k) ends (λ j l. b (suc j) (omega arith)) e i

module _ {W : Type 0} (ends : List Ends) (links : List (LinkState W)) where
  pub present-distinct : Distinct (present_links links (graph_of ends))
  present-distinct = filtered-distinct _ (graph_of ends) (graph-distinct 1 ends)

  pub ordered-between : (lt : ℕ → ℕ → Bool) (n : ℕ) → EndsUnder n ends → (e : Link) → In e (ordered lt (present_links links (graph_of ends))) → (e.a.0 < n) × (e.b.0 < n)
  ordered-between lt n b e i = graph-between n 1 ends b e (filtered-sub _ (graph_of ends) e (ordered-in lt (present_links links (graph_of ends)) e i))

-- What is lent of a table's front and given back is that front, and the first links of the table are those of its front.
pub lent-front : {X : Type 0} (q : ℕ) (xs ys : List X) → length xs ≡ q → take q (xs ++ ys) ≡ xs
lent-front q xs ys n = take-append-le q xs ys (omega arith) ∙ take_all q xs (omega arith)

pub front-links : (t u : List (List ℕ)) (r : ℕ) → r ≤ length t → take r (links_in (t ++ u)) ≡ take r (links_in t)
front-links t u r l = ap (take r) (map-append link_of t u) ∙ take-append-le r (links_in t) (links_in u) (omega (arith, length-map t link_of))

-- Present indexes put into order and written out are the present links in order.
pub present-ordered : {W : Type 0} (ends : List Ends) (links : List (LinkState W)) (lt : ℕ → ℕ → Bool) (p : ℕ) (order : List ℕ) (out : List (List ℕ))
    → length links ≡ length ends → take p order ≡ present_indexes 0 links → links_in out ≡ ordered lt (map (link_at ends) (take p order))
    → links_in out ≡ ordered lt (present_links links (graph_of ends))
present-ordered ends links lt p order out n e s =
    s ∙ ap (λ xs. ordered lt (map (link_at ends) xs)) e ∙ ap (ordered lt) (present-listed ends links n)

pub ordered-ends : {W : Type 0} (ends : List Ends) (links : List (LinkState W)) (lt : ℕ → ℕ → Bool) (n : ℕ) (es : List Link)
    → es ≡ ordered lt (present_links links (graph_of ends)) → EndsUnder n ends → EndsBelow n es
ordered-ends ends links lt n es q b k l d = ordered-between ends links lt n b (get_or es k d) (subst (In (get_or es k d)) q (in-get_or es k d l))
