-- Present links by index: the steps of the loop that lists them.
use Rattle.std.proofs.Common.{◌≡◌, ℕ, ◌+◌, ◌<◌, ◌≤◌, true, false, List, [], ◌∷◌, ◌++◌, length, get_or, take, drop, set, sym, ap, ◌∙◌}
use Rattle.std.proofs.lemmas.List.{drop_more, drop_all, take_more_set, append_assoc, append-nil}
use Rattle.std.proofs.lemmas.Bool.{cond-true, cond-false}
use Rattle.network.specs.declared.types.LinkState.{LinkState}
use Rattle.drawing.specs.Tree.{present_indexes}

module _ {W : Type 0} (links : List (LinkState W)) (i : ℕ) (x : LinkState W) (h : i < length links) (is : x ≡ get_or links i x) where
  index_in : x.present ≡ true → present_indexes i (drop i links) ≡ i ∷ present_indexes (i + 1) (drop (i + 1) links)
  unfolding present_indexes
  index_in t = ap (λ (l : List (LinkState W)). present_indexes i l) (drop_more links i x h) ∙ cond-true _ _ _ (sym (ap (λ (l : LinkState W). l.present) is) ∙ t)

  index-out : x.present ≡ false → present_indexes i (drop i links) ≡ present_indexes (i + 1) (drop (i + 1) links)
  unfolding present_indexes
  index-out t = ap (λ (l : List (LinkState W)). present_indexes i l) (drop_more links i x h) ∙ cond-false _ _ _ (sym (ap (λ (l : LinkState W). l.present) is) ∙ t)

  pub list-in : (order : List ℕ) (p : ℕ) → p < length order → x.present ≡ true
      → take p order ++ present_indexes i (drop i links) ≡ present_indexes 0 links
      → take (p + 1) (set order p i) ++ present_indexes (i + 1) (drop (i + 1) links) ≡ present_indexes 0 links
  list-in order p l t e =
      let R = present_indexes (i + 1) (drop (i + 1) links) in
      ap (λ (s : List ℕ). s ++ R) (take_more_set order p i l) ∙ append_assoc (take p order) (i ∷ []) R
      ∙ ap (λ (s : List ℕ). take p order ++ s) (sym (index_in t)) ∙ e

  pub list-out : (front : List ℕ) → x.present ≡ false
      → front ++ present_indexes i (drop i links) ≡ present_indexes 0 links
      → front ++ present_indexes (i + 1) (drop (i + 1) links) ≡ present_indexes 0 links
  list-out front t e = ap (λ (s : List ℕ). front ++ s) (sym (index-out t)) ∙ e

pub list-end : {W : Type 0} (links : List (LinkState W)) (i : ℕ) (front : List ℕ) → length links ≤ i
    → front ++ present_indexes i (drop i links) ≡ present_indexes 0 links → front ≡ present_indexes 0 links
unfolding present_indexes
list-end {W} links i front h e =
    sym (append-nil front) ∙ ap (λ (s : List ℕ). front ++ s) (sym (ap (λ (l : List (LinkState W)). present_indexes i l) (drop_all i links h))) ∙ e
