-- Marks, and links told apart by them.
use Rattle.std.proofs.Common.{◌≡◌, ℕ, zero, suc, ◌+◌, ◌-◌, ◌<◌, ◌≤◌, Bool, true, false, cond, eqb, ◌||◌, List, [], ◌∷◌, ◌++◌, map, length, get_or, take, set, filter, sym, refl, ap, ◌∙◌, subst, ap₂, inl, inr, arith}
use mathlib.Core.Path.{fun_ext}
use Rattle.std.proofs.lemmas.Bool.{cases_Bool, cases_eq, eq-eqb, ne_eqb, ltb-true, cond-true, cond-false}
use Rattle.std.proofs.lemmas.List.{get_or-set_same, get_or-set_other, take_more_set, append-nil, length-map, get_or-map, map_push, length-take-le, get_or-take}
use Rattle.std.proofs.lemmas.List.Elements.{filter_more}
use Rattle.std.proofs.lemmas.Bool.Decides.{nat_tests}
use Rattle.block_records.specs.declared.Link.{Link}
use Rattle.graphs.specs.Graph.{In, here, later}
use Rattle.graphs.specs.Forest.{filtered, greedy, forest}
use Rattle.graphs.specs.Thin.{holds, either, reduced}
use Rattle.graphs.proofs.Joined.{◌⊆◌}
use Rattle.graphs.proofs.Lists.{filtered-sub}
use Rattle.block_records.specs.Words.{no_link, link_of, link_in, links_in, numbers_in}
use Rattle.plans.specs.Plan.{among}
use Rattle.forests.specs.Heap.{Indexes}
use Rattle.forests.specs.Union.{Ends}
use Rattle.forests.proofs.InOrder.{in-get_or}
use Rattle.thinning.specs.Marks.{flag, Blank, Under, Below, unmarked, Ascends, Numbers}
use Rattle.graphs.proofs.Kruskal.{greedy-sub}

-- The number that a record begins with.
abbrev pub number_of : List ℕ → ℕ
number_of words = get_or words 0 0

-- A word is written at one more number.
pub among-push : (k : ℕ) (xs : List ℕ) (x : ℕ) → among k (xs ++ x ∷ []) ≡ (among k xs || eqb k x)
unfolding among
among-push k [] x = grind arith
among-push k (y ∷ xs) x = let h = among-push k xs x in grind (arith, nat_tests)

pub filled_more : (ms os xs : List ℕ) (x v : ℕ) → x < length ms → ((k : ℕ) → get_or ms k 0 ≡ cond (among k xs) v (get_or os k 0))
    → (k : ℕ) → get_or (set ms x v) k 0 ≡ cond (among k (xs ++ x ∷ [])) v (get_or os k 0)
filled_more ms os xs x v l h k =
    let p = among-push k xs x in
    let m = h k in elim (cases_eq k x) [
      | inl e ↦ let s = get_or-set_same ms x v 0 l in let t = eq-eqb k x e in rw e (grind (arith, nat_tests))
      | inr n ↦ let s = get_or-set_other ms x k v 0 n in let t = ne_eqb k x n in grind (arith, nat_tests)
    ]

-- The links' numbers are those of their records.
pub holds-among : (k : ℕ) (table : List (List ℕ)) → holds k (links_in table) ≡ among k (numbers_in table)
unfolding holds among
holds-among k [] = refl
holds-among k (words ∷ table) = let h = holds-among k table in grind (arith, nat_tests)

-- Where nothing was marked, the numbers written at are marked; where none but them were, none is left marked.
pub marked-flag : (ms os : List ℕ) (b : Bool) (k : ℕ) → get_or ms k 0 ≡ cond b 1 (get_or os k 0) → Blank os → flag ms k ≡ b
marked-flag ms os b k e h = let o = h k in elim (cases_Bool b) [ inl t ↦ grind (arith, nat_tests) | inr t ↦ grind (arith, nat_tests) ]

pub unmarked-flag : (ms os : List ℕ) (b : Bool) (k : ℕ) → get_or ms k 0 ≡ cond b 0 (get_or os k 0) → flag os k ≡ b → flag ms k ≡ false
unmarked-flag ms os b k e h = elim (cases_Bool b) [ inl t ↦ grind (arith, nat_tests) | inr t ↦ grind (arith, nat_tests) ]

pub filtered-kept : (p : Link → Bool) (es : List Link) → filter p es ≡ filtered p es
unfolding filtered
filtered-kept p [] = refl
filtered-kept p (e ∷ es) = let h = filtered-kept p es in cc

pub filtered-all : (es : List Link) → filtered (λ e. true) es ≡ es
unfolding filtered
filtered-all [] = refl
filtered-all (e ∷ es) = ap (λ (l : List Link). e ∷ l) (filtered-all es)

pub filtered-same : (p q : Link → Bool) → ((e : Link) → p e ≡ q e) → (es : List Link) → filtered p es ≡ filtered q es
filtered-same p q h es = ap (λ r. filtered r es) (fun_ext h)

-- Conversions between links by place and links of a list.
pub under_at : (m : ℕ) (es : List Link) → Under m es → (k : ℕ) (d : Link) → k < length es → (get_or es k d).number < m
under_at m es u k d l = u (get_or es k d) (in-get_or es k d l)

-- The numbers of links that are below m, as a table's first words.
pub under-numbers : (m : ℕ) (table : List (List ℕ)) → Under m (links_in table) → (i : ℕ) → i < length (numbers_in table) → get_or (numbers_in table) i 0 < m
under-numbers m table u i l =
    let n = length-map table number_of in
    let k = length-map table link_of in
    let a = get_or-map number_of table i [] 0 (omega arith) in
    let b = ap (λ (e : Link). e.number) (get_or-map link_of table i [] no_link (omega arith)) in
    omega (arith, under_at m (links_in table) u i no_link (omega arith))

pub take-sub : (n : ℕ) (es : List Link) → take n es ⊆ es
take-sub zero es f i = elim i [ ]
take-sub (suc n) [] f i = i
take-sub (suc n) (e ∷ es) f here = here
take-sub (suc n) (e ∷ es) f (later i) = later (take-sub n es f i)

pub ends-below : (n : ℕ) (es : List Link) → Below n es → Ends n es
ends-below n es w = λ k lk d. w (get_or es k d) (in-get_or es k d lk)

-- A position that is noted, and one that is left out.
module _ (p : Link → Bool) (table : List (List ℕ)) (os : List ℕ) (k i : ℕ) (lt : i < length table) where
  step : filter p (take (i + 1) (links_in table)) ≡ filter p (take i (links_in table)) ++ cond (p (link_in table i)) (link_in table i ∷ []) []
  step =
      let n = length-map table link_of in
      let b = filter_more p (links_in table) i no_link (omega arith) in
      let a = get_or-map link_of table i [] no_link lt in
      cc

  pub noted_in : k < length os → p (link_in table i) ≡ true → map (link_in table) (take k os) ≡ filter p (take i (links_in table))
      → map (link_in table) (take (k + 1) (set os k i)) ≡ filter p (take (i + 1) (links_in table))
  noted_in l t h =
      let a = take_more_set os k i l in
      let m = map_push (link_in table) (take k os) i in
      let d : cond (p (link_in table i)) (link_in table i ∷ []) [] ≡ link_in table i ∷ [] = cond-true _ _ _ t in
      ap (map (link_in table)) a ∙ m ∙ ap₂ (λ (x y : List Link). x ++ y) h (sym d) ∙ sym step

  pub noted-out : p (link_in table i) ≡ false → map (link_in table) (take k os) ≡ filter p (take i (links_in table))
      → map (link_in table) (take k os) ≡ filter p (take (i + 1) (links_in table))
  noted-out t h =
      let d : cond (p (link_in table i)) (link_in table i ∷ []) [] ≡ [] = cond-false _ _ _ t in
      h ∙ sym (append-nil (filter p (take i (links_in table)))) ∙ ap (λ (x : List Link). filter p (take i (links_in table)) ++ x) (sym d) ∙ sym step

-- Numbers below n, one more written.
pub noted-below : (os : List ℕ) (k v n : ℕ) → k < length os → v < n → ((j : ℕ) → j < k → get_or os j 0 < n) → (j : ℕ) → j < k + 1 → get_or (set os k v) j 0 < n
noted-below os k v n l b h j m = elim (cases_eq j k) [
  | inl e ↦ let s = get_or-set_same os k v 0 l in let t : get_or (set os k v) j 0 ≡ v = ap (λ x. get_or (set os k v) x 0) e ∙ s in omega arith
  | inr ne ↦ let s = get_or-set_other os k j v 0 ne in let t = h j (omega arith) in omega arith
]

pub indexes-front : (os : List ℕ) (k n : ℕ) → k ≤ length os → ((j : ℕ) → j < k → get_or os j 0 < n) → Indexes (take (k - 0) os) n
indexes-front os k n l h = λ j m.
    let e : k - 0 ≡ k = omega arith in
    let t = length-take-le (k - 0) os (omega arith) in
    let g = get_or-take (k - 0) os j 0 (omega arith) in
    let b = h j (omega arith) in
    omega arith

-- What holds of links holds of those that are kept.
pub under-greedy : (m : ℕ) (K os xs : List Link) → xs ≡ greedy K os → Under m os → Under m xs
under-greedy m K os xs h u e i = u e (greedy-sub K os e (subst (In e) h i))

pub below-greedy : (m : ℕ) (K os xs : List Link) → xs ≡ greedy K os → Below m os → Below m xs
below-greedy m K os xs h u e i = u e (greedy-sub K os e (subst (In e) h i))

pub under-filtered : (m : ℕ) (p : Link → Bool) (es xs : List Link) → xs ≡ filtered p es → Under m es → Under m xs
under-filtered m p es xs h u e i = u e (filtered-sub p es e (subst (In e) h i))

pub below-filtered : (m : ℕ) (p : Link → Bool) (es xs : List Link) → xs ≡ filtered p es → Below m es → Below m xs
below-filtered m p es xs h u e i = u e (filtered-sub p es e (subst (In e) h i))

-- The named links and those that are marked as chosen.
pub reduced-is : (ns cs : List ℕ) (lt : ℕ → ℕ → Bool) (es xs : List Link) → ((j : ℕ) → flag cs j ≡ holds j xs) → xs ≡ forest lt (unmarked ns es)
    → filtered (λ e. either (flag ns e.number) (flag cs e.number)) es ≡ reduced (flag ns) lt es
unfolding reduced
reduced-is ns cs lt es xs m f = filtered-same _ _ (λ e. ap (either (flag ns e.number)) (m e.number ∙ ap (holds e.number) f)) es

pub chosen_is : (ns cs : List ℕ) (es xs os : List Link) → ((j : ℕ) → flag cs j ≡ holds j xs) → xs ≡ greedy [] os
    → filtered (λ e. either (flag ns e.number) (flag cs e.number)) es ≡ filtered (λ e. either (flag ns e.number) (holds e.number (greedy [] os))) es
chosen_is ns cs es xs os m f = filtered-same _ _ (λ e. ap (either (flag ns e.number)) (m e.number ∙ ap (holds e.number) f)) es

-- Links that ascend within 1 to m are at most m.
from : (m lo : ℕ) (es : List Link) → ((e : Link) → In e es → (lo < e.number) × (e.number ≤ m)) → Ascends es → lo ≤ m → lo + length es ≤ m
from m lo [] h a l = omega arith
from m lo (e ∷ es) h a l =
    let b = h e here in
    let r = from m e.number es (λ f i. (ltb-true e.number f.number (a.0 f i), (h f (later i)).1)) a.1 b.1 in
    omega arith

pub ascends-few : (m : ℕ) (es : List Link) → Numbers m es → Ascends es → length es ≤ m
ascends-few m es h a = let r = from m 0 es (λ e i. let b = h e i in (omega arith, b.1)) a (omega arith) in omega arith
