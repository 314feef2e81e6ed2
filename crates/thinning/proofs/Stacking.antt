-- Classes of links joined one by one.
use Rattle.std.proofs.Common.{◌≡◌, ℕ, ◌+◌, ◌<◌, Bool, true, false, cond, List, [], ◌∷◌, ◌++◌, length, get_or, take, filter, sym, refl, ap, ◌∙◌}
use Rattle.std.proofs.lemmas.List.{take_more, append-nil}
use Rattle.std.proofs.lemmas.List.Elements.{filter_more}
use Rattle.std.proofs.lemmas.Bool.{cond-true, cond-false}
use Rattle.block_records.specs.declared.Link.{Link}
use Rattle.graphs.specs.Graph.{label, In, here, later}
use Rattle.graphs.proofs.Joined.{◌⊆◌, joined_in, label-spans}
use Rattle.forests.specs.Union.{Holds}
use Rattle.block_records.specs.Words.{no_link}
use Rattle.thinning.specs.Marks.{stacked}

pub stacked-none : (K : List Link) → stacked K [] ≡ K
unfolding stacked
stacked-none K = refl

pub stacked-push : (K es : List Link) (e : Link) → stacked K (es ++ e ∷ []) ≡ e ∷ stacked K es
unfolding stacked
stacked-push K [] e = refl
stacked-push K (f ∷ es) e = stacked-push (f ∷ K) es e

pub stacked-more : (K es : List Link) (i : ℕ) → i < length es → stacked K (take (i + 1) es) ≡ get_or es i no_link ∷ stacked K (take i es)
stacked-more K es i l = ap (stacked K) (take_more es i no_link l) ∙ stacked-push K (take i es) (get_or es i no_link)

module _ (p : Link → Bool) (K es : List Link) (i : ℕ) (l : i < length es) where
  pub stacked-in : p (get_or es i no_link) ≡ true → stacked K (filter p (take (i + 1) es)) ≡ get_or es i no_link ∷ stacked K (filter p (take i es))
  stacked-in t =
      let e = get_or es i no_link in
      let d : cond (p e) (e ∷ []) [] ≡ e ∷ [] = cond-true _ _ _ t in
      ap (stacked K) (filter_more p es i no_link l ∙ ap (λ x. filter p (take i es) ++ x) d) ∙ stacked-push K (filter p (take i es)) e

  pub stacked-out : p (get_or es i no_link) ≡ false → stacked K (filter p (take (i + 1) es)) ≡ stacked K (filter p (take i es))
  stacked-out t =
      let e = get_or es i no_link in
      let d : cond (p e) (e ∷ []) [] ≡ [] = cond-false _ _ _ t in
      ap (stacked K) (filter_more p es i no_link l ∙ ap (λ x. filter p (take i es) ++ x) d ∙ append-nil (filter p (take i es)))

-- What is stacked are the same links.
in-base : (K es : List Link) (e : Link) → In e K → In e (stacked K es)
unfolding stacked
in-base K [] e i = i
in-base K (f ∷ es) e i = in-base (f ∷ K) es e (later i)

in-stacked : (K es : List Link) → es ⊆ stacked K es
unfolding stacked
in-stacked K [] e i = elim i [ ]
in-stacked K (f ∷ es) e here = in-base (f ∷ K) es f here
in-stacked K (f ∷ es) e (later i) = in-stacked (f ∷ K) es e i

stacked-in-either : (K es M : List Link) → K ⊆ M → es ⊆ M → stacked K es ⊆ M
unfolding stacked
stacked-in-either K [] M a b e i = a e i
stacked-in-either K (f ∷ es) M a b g j = stacked-in-either (f ∷ K) es M first (λ e i. b e (later i)) g j
  where
    first : (e : Link) → In e (f ∷ K) → In e M
    first e here = b e here
    first e (later i) = a e i

pub label-stacked : (es : List Link) (x : ℕ) → label (stacked [] es) x ≡ label es x
label-stacked es x =
    label-spans (λ e i. joined_in (stacked-in-either [] es es (λ f j. elim j [ ]) (λ f j. j) e i)) (λ e i. joined_in (in-stacked [] es e i)) x

-- A table holds classes by their labels only.
pub holds-labels : (A B : List Link) (ps : List ℕ) → ((x : ℕ) → label A x ≡ label B x) → Holds A ps → Holds B ps
holds-labels A B ps s h = record {
  falls = h.falls;
  same = λ x l. sym (s (get_or ps x 0)) ∙ h.same x l ∙ s x;
  top = λ x l t. sym (s x) ∙ h.top x l t;
}
