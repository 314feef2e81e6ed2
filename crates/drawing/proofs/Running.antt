-- A batch as the recursion takes it: the network's graph, and moves to places.
use Rattle.std.proofs.Common.{◌≡◌, ℕ, zero, suc, ◌+◌, ◌<◌, ◌≤◌, true, false, cond, eqb, ltb, List, [], ◌∷◌, map, length, get_or, Some, None, Ok, Err, Option, Result, sym, ap, ◌∙◌, subst, ap₂, inl, inr, arith}
use lib.ListN.{length-map}
use Rattle.std.proofs.lemmas.List.{get_or-map, same_lists}
use Rattle.std.proofs.lemmas.Bool.{cases_Bool, cond-true, cond-false, ne_eqb}
use Rattle.faults.specs.declared.DrawFault.{DrawFault}
use Rattle.faults.specs.declared.DrawFault.TheVariants.{Parted}
use Rattle.network.specs.declared.types.Ends.{Ends}
use Rattle.network.specs.declared.types.Change.{Change}
use Rattle.network.specs.Ends.{first_end_fault}
use Rattle.block_records.specs.declared.Link.{Link}
use Rattle.graphs.proofs.Lists.{Sorted}
use Rattle.block_records.specs.declared.Move.{Move}
use Rattle.plans.specs.Network.{graph_from, graph_of}
use Rattle.plans.proofs.Standings.{faultless-within, graph-length, graph-numbers, graph-sorted}
use Rattle.block_records.specs.Words.{link}
use Rattle.thinning.specs.Marks.{Ascends}
use Rattle.plans.specs.Tears.{torn_at, first_tear}
use Rattle.leaves.specs.declared.tally.Tally.{Tally}
use Rattle.blocks.specs.Block.{no_move, Sound}
use Rattle.blocks.specs.Telling.{Tear}
use Rattle.places.proofs.Commits.{moves-length}
use Rattle.drawing.specs.Answer.{parted_fault, unless}
use Rattle.places.specs.Moves.{Known, place_moves}
use Rattle.drawing.specs.Tree.{no_ends, link_at}

graph_at : (k : ℕ) (ends : List Ends) (i : ℕ) (d : Link) → i < length ends
    → get_or (graph_from k ends) i d ≡ link (k + i) (get_or ends i no_ends).a.0 (get_or ends i no_ends).b.0
unfolding graph_from
graph_at k [] i d l = absurd (omega arith)
graph_at k (e ∷ ends) zero d l = let q : k ≡ k + 0 = omega arith in ap (λ j. link j e.a.0 e.b.0) q
graph_at k (e ∷ ends) (suc i) d l =
    let q : suc k + i ≡ k + suc i = omega arith in
    graph_at (suc k) ends i d (omega arith) ∙ ap (λ j. link j (get_or ends i no_ends).a.0 (get_or ends i no_ends).b.0) q

-- The links of all indexes in turn are the network's graph.
pub all_laid : (ends : List Ends) (order : List ℕ) → length order ≡ length ends → ((k : ℕ) → k < length order → get_or order k 0 ≡ k) → map (link_at ends) order ≡ graph_of ends
all_laid ends order n h =
    same_lists (map (link_at ends) order) (graph_of ends) (length-map order (link_at ends) ∙ n ∙ sym (graph-length 1 ends))
    (λ k d l.
    let m : k < length order = omega (arith, length-map order (link_at ends)) in
    let q : suc k ≡ 1 + k = omega arith in
    get_or-map (link_at ends) order k 0 d m ∙ ap (link_at ends) (h k m) ∙ ap (λ j. link j (get_or ends k no_ends).a.0 (get_or ends k no_ends).b.0) q
    ∙ sym (graph_at 1 ends k d (omega arith)))

sorted-ascends : (es : List Link) → Sorted ltb es → Ascends es
sorted-ascends [] s = tt
sorted-ascends (e ∷ es) s = (s.0, sorted-ascends es s.1)

known-moves : {W : Type 0} (m : ℕ) (batch : List (Change W)) (ps : List ℕ) → Known m batch → (k : ℕ) → k < length (place_moves batch ps)
    → (1 ≤ (get_or (place_moves batch ps) k no_move).link) × ((get_or (place_moves batch ps) k no_move).link ≤ m)
unfolding place_moves
known-moves m [] ps h k l = absurd (omega arith)
known-moves m (c ∷ cs) [] h k l = absurd (omega arith)
known-moves m (c ∷ cs) (p ∷ ps) h zero l = h 0 c (omega arith)
known-moves m (c ∷ cs) (p ∷ ps) h (suc k) l = known-moves m cs ps (λ i d q. h (suc i) d (omega arith)) k (omega arith)

graph-sound : {W : Type 0} (n : ℕ) (ends : List Ends) (batch : List (Change W)) (ps : List ℕ) → first_end_fault n 1 ends ≡ None → Known (length ends) batch
    → Sound n (length ends) (graph_of ends) (place_moves batch ps)
graph-sound n ends batch ps f k = record {
  many = graph-length 1 ends;
  known = known-moves (length ends) batch ps k;
  numbers = λ e i. let r = graph-numbers 1 ends e i in (r.0, omega (arith, r.1));
  ascends = sorted-ascends (graph_of ends) (graph-sorted 1 ends);
  ends = faultless-within n 1 ends f;
}

-- A network and a batch of known links are such as the recursion takes.
pub run_sound : {W : Type 0} (n : ℕ) (ends : List Ends) (batch : List (Change W)) (ps : List ℕ) (es : List Link) (cs : List (Move ℕ)) (m : ℕ)
    → es ≡ graph_of ends → cs ≡ place_moves batch ps → m ≡ length ends → first_end_fault n 1 ends ≡ None → Known (length ends) batch → Sound n m es cs
run_sound n ends batch ps es cs m e q z f k =
    subst (λ (j : ℕ). Sound n j es cs) (sym z) (subst (λ (x : List Link). Sound n (length ends) x cs) (sym e)
    (subst (λ (x : List (Move ℕ)). Sound n (length ends) (graph_of ends) x) (sym q) (graph-sound n ends batch ps f k)))

-- What the tally says of the first change that parts the network.
module _ {W : Type 0} (absent : ℕ) (places : List ℕ) (ends : List Ends) (batch : List (Change W)) (ps : List ℕ) (es : List Link) (cs : List (Move ℕ))
    (e : es ≡ graph_of ends) (m : cs ≡ place_moves batch ps) (n : length ps ≡ length batch) where
  pub tear-told : (r : Tally) → torn_at absent places (graph_of ends) ≡ false → Tear absent places es cs r
      → r.tear ≡ cond (ltb (first_tear absent places (graph_of ends) (place_moves batch ps)) (length batch)) (Some (first_tear absent places (graph_of ends) (place_moves batch ps))) None
  tear-told r w t =
      let T : ℕ = first_tear absent places (graph_of ends) (place_moves batch ps) in
      let k : length cs ≡ length batch = ap length m ∙ moves-length batch ps n in
      let q : first_tear absent places es cs ≡ T = ap₂ (λ (x : List Link) (y : List (Move ℕ)). first_tear absent places x y) e m in
      t (subst (λ (x : List Link). torn_at absent places x ≡ false) (sym e) w)
      ∙ ap₂ (λ (x : ℕ) (l : ℕ). cond (ltb x l) (Some x) None) q k

pub tear-some : (t k i : ℕ) → Some i ≡ cond (ltb t k) (Some t) None → (ltb t k ≡ true) × (i ≡ t)
tear-some t k i e = elim (cases_Bool (ltb t k)) [
  | inl u ↦ let q = e ∙ cond-true _ _ _ u in (u, (cc))
  | inr u ↦ absurd (let q = e ∙ cond-false _ _ _ u in let z : ◌≡◌ {A = ℕ} 0 1 = cc in omega arith)
]

tear-none : (t k : ℕ) → None ≡ cond (ltb t k) (Some t) None → ltb t k ≡ false
tear-none t k e = elim (cases_Bool (ltb t k)) [
  | inl u ↦ absurd (let q = e ∙ cond-true _ _ _ u in let z : ◌≡◌ {A = ℕ} 0 1 = cc in omega arith)
  | inr u ↦ u
]

pub told-parted : (t k i : ℕ) (x : ℕ) → Some i ≡ cond (ltb t k) (Some t) None → Err (Parted (i + 1)) ≡ unless (parted_fault (cond (ltb t k) (1 + t) 0)) x
told-parted t k i x h =
    let s = tear-some t k i h in
    let a : cond (ltb t k) (1 + t) 0 ≡ 1 + t = cond-true (ltb t k) (1 + t) 0 s.0 in
    let b : parted_fault (1 + t) ≡ Some (Parted (1 + t)) = cond-false (eqb (1 + t) 0) None (Some (Parted (1 + t))) (ne_eqb (1 + t) 0 (λ z. omega arith)) in
    let q : i + 1 ≡ 1 + t = omega (arith, s.1) in
    ap (λ (j : ℕ). Err (Parted j)) q ∙ sym (ap (λ (o : Option DrawFault). unless o x) (ap parted_fault a ∙ b))

pub told-whole : (t k w : ℕ) (x : ℕ) → None ≡ cond (ltb t k) (Some t) None → w ≡ x → ◌≡◌ {A = Result ℕ DrawFault} (Ok w) (unless (parted_fault (cond (ltb t k) (1 + t) 0)) x)
told-whole t k w x h e =
    let a : cond (ltb t k) (1 + t) 0 ≡ 0 = cond-false (ltb t k) (1 + t) 0 (tear-none t k h) in
    ap (λ (j : ℕ). Ok j) e ∙ sym (ap (λ (o : ℕ). unless (parted_fault o) x) a)
