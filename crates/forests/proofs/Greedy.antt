-- The steps of the loop that keeps links.
use Rattle.std.proofs.Common.{◌≡◌, ℕ, ◌+◌, ◌<◌, ◌≤◌, true, false, List, [], ◌∷◌, ◌++◌, reverse, length, get_or, take, drop, set, refl, ap, ◌∙◌, arith}
use Rattle.std.proofs.lemmas.List.{drop_more, take_more_set, reverse-append, append_assoc, append-nil, drop_all}
use Rattle.std.proofs.lemmas.Bool.{cond-true, cond-false}
use Rattle.block_records.specs.declared.Link.{Link}
use Rattle.graphs.specs.Graph.{joins}
use Rattle.forests.specs.Union.{Holds}
use Rattle.graphs.specs.Forest.{greedy}

-- What is left of two tables is the same, so is the next element and what is left after it.
pub next-same : (now all : List Link) (i : ℕ) (d : Link) → i < length now → i < length all → drop i now ≡ drop i all → (get_or now i d ≡ get_or all i d) × (drop (i + 1) now ≡ drop (i + 1) all)
next-same now all i d h1 h2 e =
    let e1 = drop_more now i d h1 in
    let e2 = drop_more all i d h2 in
    ((cc), (cc))

-- A link that is left out,
pub greedy-out : (kept es : List Link) (e : Link) → joins kept e.a.0 e.b.0 ≡ true → greedy kept (e ∷ es) ≡ greedy kept es
unfolding greedy
greedy-out kept es e j = cond-true _ _ _ j

-- and one that is kept.
pub greedy-in : (kept es : List Link) (e : Link) → joins kept e.a.0 e.b.0 ≡ false → greedy kept (e ∷ es) ≡ e ∷ greedy (e ∷ kept) es
unfolding greedy
greedy-in kept es e j = cond-false _ _ _ j

pub greedy-end : (kept : List Link) → greedy kept [] ≡ []
unfolding greedy
greedy-end kept = refl

-- Beyond the links of K, after i of all links: k are kept, at the front, and the rest are as they were.
pub record Sofar (K all now : List Link) (ps : List ℕ) (k i : ℕ) : Type 0 where
  pub classes : Holds (reverse (take k now) ++ K) ps
  pub kept : take k now ++ greedy (reverse (take k now) ++ K) (drop i all) ≡ greedy K all

module _ (K all now : List Link) (ps : List ℕ) (k i : ℕ) (d : Link) (low : k ≤ i) (same : drop i now ≡ drop i all) (h : Sofar K all now ps k i) (lt : i < length all) (long : length now ≡ length all) where
  pub sofar-out : (ps2 : List ℕ) → joins (reverse (take k now) ++ K) (get_or now i d).a.0 (get_or now i d).b.0 ≡ true → Holds (reverse (take k now) ++ K) ps2 → Sofar K all now ps2 k (i + 1)
  sofar-out ps2 j c =
      let n = next-same now all i d (omega arith) lt same in
      let e1 = drop_more all i d lt in
      let g = greedy-out (reverse (take k now) ++ K) (drop (i + 1) all) (get_or now i d) j in
      let g2 : greedy (reverse (take k now) ++ K) (drop i all) ≡ greedy (reverse (take k now) ++ K) (drop (i + 1) all) = cc n.0 in
      record {
        classes = c;
        kept = rw (← g2) h.kept;
      }

  pub sofar-in : (ps2 : List ℕ) → joins (reverse (take k now) ++ K) (get_or now i d).a.0 (get_or now i d).b.0 ≡ false → Holds (get_or now i d ∷ (reverse (take k now) ++ K)) ps2 → Sofar K all (set now k (get_or now i d)) ps2 (k + 1) (i + 1)
  sofar-in ps2 j c =
      let e = get_or now i d in
      let F = take k now in
      let R = drop (i + 1) all in
      let n = next-same now all i d (omega arith) lt same in
      let e1 = drop_more all i d lt in
      let t : take (k + 1) (set now k e) ≡ F ++ e ∷ [] = take_more_set now k e (omega arith) in
      let r : reverse (take (k + 1) (set now k e)) ++ K ≡ e ∷ (reverse F ++ K) = ap (λ l. l ++ K) (ap reverse t ∙ reverse-append F (e ∷ [])) in
      let g : greedy (reverse F ++ K) (e ∷ R) ≡ e ∷ greedy (e ∷ (reverse F ++ K)) R = greedy-in (reverse F ++ K) R e j in
      let a : (F ++ e ∷ []) ++ greedy (e ∷ (reverse F ++ K)) R ≡ F ++ (e ∷ greedy (e ∷ (reverse F ++ K)) R) = append_assoc F (e ∷ []) (greedy (e ∷ (reverse F ++ K)) R) in
      record {
        classes = rw r c;
        kept = cc (n.0, h.kept);
      }

pub sofar-end : (K all now : List Link) (ps : List ℕ) (k i : ℕ) → Sofar K all now ps k i → length all ≤ i → take k now ≡ greedy K all
sofar-end K all now ps k i h le =
    let e : drop i all ≡ [] = drop_all i all le in
    let g = greedy-end (reverse (take k now) ++ K) in
    let n = append-nil (take k now) in
    cc h.kept
