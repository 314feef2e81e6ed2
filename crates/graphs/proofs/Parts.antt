-- Links in order are told by their members; and the least forest of a part of the links.
use Rattle.std.proofs.Common.{◌≡◌, ℕ, Bool, true, ◌⊎◌, List, [], ◌∷◌, sym, refl, subst, ap₂, inl, inr}
use Rattle.std.proofs.lemmas.Bool.{both_ways}
use Rattle.block_records.specs.declared.Link.{Link}
use Rattle.graphs.specs.Graph.{In, here, later}
use Rattle.graphs.specs.Forest.{Strict, Distinct, filtered, forest, before}
use Rattle.graphs.proofs.Joined.{◌⊆◌, joined-mono}
use Rattle.graphs.proofs.Lists.{in-cons, filtered-sub, filtered-test, in-sift, filtered-distinct, Sorted}
use Rattle.graphs.proofs.Loops.{unjoined, unjoins}
use Rattle.graphs.proofs.Kruskal.{forest-sub, forest-sorted, forest-unjoined, in-forest}

-- Two lists in order with the same links are the same.
module _ (lt : ℕ → ℕ → Bool) (o : Strict lt) where
  loops-not : (e f : Link) → e ≡ f → lt e.number f.number ≡ true → ⊥
  loops-not e f q h = both_ways (lt e.number e.number) (o.apart e.number) (subst (λ g. lt e.number g.number ≡ true) (sym q) h)

  pub sorted-same : (A B : List Link) → Sorted lt A → Sorted lt B → A ⊆ B → B ⊆ A → A ≡ B
  sorted-same [] [] s t h k = refl
  sorted-same [] (b ∷ B) s t h k = elim (k b here) [ ]
  sorted-same (a ∷ A) [] s t h k = elim (h a here) [ ]
  sorted-same (a ∷ A) (b ∷ B) s t h k =
      let p : (a ≡ b) ⊎ (lt b.number a.number ≡ true) = in-cons (λ g. (g ≡ b) ⊎ (lt b.number g.number ≡ true)) (h a here) (inl refl) (λ i. inr (t.0 a i)) in
      let q : (b ≡ a) ⊎ (lt a.number b.number ≡ true) = in-cons (λ g. (g ≡ a) ⊎ (lt a.number g.number ≡ true)) (k b here) (inl refl) (λ i. inr (s.0 b i)) in
      let e : a ≡ b = elim p [
        | inl e ↦ e
        | inr u ↦ elim q [
          | inl e ↦ sym e
          | inr v ↦ absurd (loops-not a a refl (o.chain a.number b.number a.number v u))
        ]
      ] in
      ap₂ (λ (x : Link) (l : List Link). x ∷ l) e
      (sorted-same A B s.1 t.1
      (λ f i. in-cons (λ g. lt a.number g.number ≡ true → In g B) (h f (later i)) (λ u. absurd (loops-not a b e u)) (λ j _. j) (s.0 f i))
      (λ f i. in-cons (λ g. lt b.number g.number ≡ true → In g A) (k f (later i)) (λ u. absurd (loops-not b a (sym e) u)) (λ j _. j) (t.0 f i)))

-- A part of the links with all that come before any of them has, as its least forest, the forest's links of that part.
module _ (lt : ℕ → ℕ → Bool) (o : Strict lt) (P : Link → Bool) (down : (e f : Link) → lt e.number f.number ≡ true → P f ≡ true → P e ≡ true)
    (es : List Link) (d : Distinct es) where
  part_in : forest lt (filtered P es) ⊆ forest lt es
  part_in f i =
      let u = forest-sub lt (filtered P es) f i in
      in-forest lt o es d f (filtered-sub P es f u)
      (unjoins (λ j. unjoined (forest-unjoined lt o (filtered P es) (filtered-distinct P es d) f i) (joined-mono
      (λ g m. in-sift (before lt f) (in-sift P (filtered-sub (before lt f) es g m) (down g f (filtered-test (before lt f) es g m) (filtered-test P es f u)))
      (filtered-test (before lt f) es g m)) j)))

  in-part : (f : Link) → In f (forest lt es) → P f ≡ true → In f (forest lt (filtered P es))
  in-part f i p =
      in-forest lt o (filtered P es) (filtered-distinct P es d) f (in-sift P (forest-sub lt es f i) p)
      (unjoins (λ j. unjoined (forest-unjoined lt o es d f i) (joined-mono
      (λ g m. in-sift (before lt f) (filtered-sub P es g (filtered-sub (before lt f) (filtered P es) g m)) (filtered-test (before lt f) (filtered P es) g m)) j)))

  pub part_same : ((f : Link) → In f (forest lt es) → P f ≡ true) → forest lt es ≡ forest lt (filtered P es)
  part_same h =
      sorted-same lt o (forest lt es) (forest lt (filtered P es)) (forest-sorted lt o es d) (forest-sorted lt o (filtered P es) (filtered-distinct P es d))
      (λ f i. in-part f i (h f i)) part_in
