-- Same order, same plan: tables of two scales whose values have the same order give the same trees, entries, tears and work.
use Rattle.std.proofs.Common.{◌≡◌, ℕ, zero, suc, ◌+◌, ◌/◌, ◌<◌, ◌≤◌, Bool, true, cond, ◌&&◌, ◌||◌, eqb, ltb, List, [], ◌∷◌, ◌++◌, map, length, get_or, take, drop, set, refl, ap, ◌∙◌, ap₂, arith}
use Rattle.std.proofs.lemmas.List.{length-set}
use Rattle.std.proofs.lemmas.Bool.{or_left, or_right, eq-eqb}
use Rattle.block_records.specs.declared.Link.{Link}
use Rattle.graphs.specs.Graph.{In}
use Rattle.graphs.specs.Thin.{Block, thinned}
use Rattle.graphs.proofs.Kruskal.{forest-sub}
use Rattle.graphs.proofs.Agreeing.{AgreeOn, forest-agree, thinned-agree, thinned-numbers}
use Rattle.block_records.specs.declared.Move.{Move}
use Rattle.plans.specs.Places.{Scale, value_of, before_by, placed_at, moved, moved_by}
use Rattle.plans.specs.Plan.{forest_by, tree_by, numbers, among, Entry, entry, entries_by}
use Rattle.plans.specs.Work.{named, half, thinned_by, block_work_by, batch_work_by, work_by}
use Rattle.plans.specs.Tears.{late_by, torn_by, first_tear_by}
use Rattle.plans.proofs.Numbers.{numbers-in}

-- Two lists whose values are related one by one.
pub data Match {V U : Type 0} (R : V → U → Type 0) : List V → List U → Type 0 where
  over : Match R [] []
  more : {x : V} {y : U} {xs : List V} {ys : List U} → R x y → Match R xs ys → Match R (x ∷ xs) (y ∷ ys)

-- Two moves of one link to related values.
pub record Twin {V U : Type 0} (R : V → U → Type 0) (c : Move V) (d : Move U) : Type 0 where
  pub link : c.link ≡ d.link
  pub to : R c.to d.to

module _ {V U : Type 0} {R : V → U → Type 0} where
  pub match-length : {xs : List V} {ys : List U} → Match R xs ys → length xs ≡ length ys
  match-length over = refl
  match-length (more r m) = ap suc (match-length m)

  match-at : {xs : List V} {ys : List U} → Match R xs ys → (k : ℕ) → k < length xs → (d : V) (e : U) → R (get_or xs k d) (get_or ys k e)
  match-at over k h d e = absurd (omega arith)
  match-at (more r m) zero h d e = r
  match-at (more r m) (suc k) h d e = match-at m k (omega arith) d e

  match-set : {xs : List V} {ys : List U} → Match R xs ys → (k : ℕ) {x : V} {y : U} → R x y → Match R (set xs k x) (set ys k y)
  match-set over k r = over
  match-set (more q m) zero r = more r m
  match-set (more q m) (suc k) r = more q (match-set m k r)

  match-take : (k : ℕ) {xs : List V} {ys : List U} → Match R xs ys → Match R (take k xs) (take k ys)
  match-take zero m = over
  match-take (suc k) over = over
  match-take (suc k) (more r m) = more r (match-take k m)

  match-drop : (k : ℕ) {xs : List V} {ys : List U} → Match R xs ys → Match R (drop k xs) (drop k ys)
  match-drop zero m = m
  match-drop (suc k) over = over
  match-drop (suc k) (more r m) = match-drop k m

  -- Lists that are related at each position.
  pub match-from : (xs : List V) (ys : List U) (d : V) (e : U) → length xs ≡ length ys
      → ((k : ℕ) → k < length xs → R (get_or xs k d) (get_or ys k e)) → Match R xs ys
  match-from [] [] d e l h = over
  match-from [] (y ∷ ys) d e l h = absurd (omega arith)
  match-from (x ∷ xs) [] d e l h = absurd (omega arith)
  match-from (x ∷ xs) (y ∷ ys) d e l h = more (h 0 (omega arith)) (match-from xs ys d e (omega arith) (λ k p. h (suc k) (omega arith)))

  -- The parts of appended lists.
  pub match-parts : (xs : List V) (xs' : List U) {ys : List V} {ys' : List U} → length xs ≡ length xs' → Match R (xs ++ ys) (xs' ++ ys')
      → Match R xs xs' × Match R ys ys'
  match-parts [] [] l m = (over, m)
  match-parts [] (y ∷ xs') l m = absurd (omega arith)
  match-parts (x ∷ xs) [] l m = absurd (omega arith)
  match-parts (x ∷ xs) (y ∷ xs') l (more r m) = let p = match-parts xs xs' (omega arith) m in (more r p.0, p.1)

  -- Moves of the same links to related values.
  pub match-moves : (cs : List (Move V)) (ds : List (Move U)) → map (λ (c : Move V). c.link) cs ≡ map (λ (d : Move U). d.link) ds
      → Match R (map (λ (c : Move V). c.to) cs) (map (λ (d : Move U). d.to) ds) → Match (Twin R) cs ds
  match-moves [] [] e m = over
  match-moves [] (d ∷ ds) e m = absurd (let l = ap (λ (l : List ℕ). length l) e in omega arith)
  match-moves (c ∷ cs) [] e m = absurd (let l = ap (λ (l : List ℕ). length l) e in omega arith)
  match-moves (c ∷ cs) (d ∷ ds) e (more r m) =
      more (record { link = ap (λ (l : List ℕ). get_or l 0 0) e; to = r }) (match-moves cs ds (ap (λ (l : List ℕ). drop 1 l) e) m)

  match-placed : {xs : List V} {ys : List U} → Match R xs ys → (k : ℕ) {x : V} {y : U} → R x y → Match R (placed_at xs k x) (placed_at ys k y)
  unfolding placed_at
  match-placed m zero r = m
  match-placed m (suc k) r = match-set m k r

  match-moved : {T : List V} {T' : List U} {c : Move V} {d : Move U} → Match R T T' → Twin R c d → Match R (moved T c) (moved T' d)
  match-moved {d = d} m t = rw t.link (match-placed m d.link t.to)

  match-moved_by : {cs : List (Move V)} {ds : List (Move U)} → Match (Twin R) cs ds → {T : List V} {T' : List U} → Match R T T'
      → Match R (moved_by T cs) (moved_by T' ds)
  unfolding moved_by
  match-moved_by over m = m
  match-moved_by (more t n) m = match-moved_by n (match-moved m t)

  named-same : {cs : List (Move V)} {ds : List (Move U)} → Match (Twin R) cs ds → (k : ℕ) → named cs k ≡ named ds k
  unfolding named
  named-same over k = refl
  named-same (more t m) k = ap₂ (λ (l : ℕ) (b : Bool). eqb k l || b) t.link (named-same m k)

placed-length : {V : Type 0} (T : List V) (k : ℕ) (x : V) → length (placed_at T k x) ≡ length T
unfolding placed_at
placed-length T zero x = refl
placed-length T (suc k) x = length-set T k x

moved_length : {V : Type 0} (T : List V) (cs : List (Move V)) → length (moved_by T cs) ≡ length T
unfolding moved_by
moved_length T [] = refl
moved_length T (c ∷ cs) = moved_length (moved T c) cs ∙ placed-length T c.link c.to

-- The links' numbers are from 1 to m.
abbrev pub Known : ℕ → List Link → Type 0
Known m es = (e : Link) → In e es → (1 ≤ e.number) × (e.number ≤ m)

-- Related values have the same order.
pub record Alike {V U : Type 0} (s : Scale V) (s' : Scale U) (R : V → U → Type 0) : Type 0 where
  pub ahead : (x y : V) (x' y' : U) → R x x' → R y y' → s.ahead x y ≡ s'.ahead x' y'
  pub level : (x y : V) (x' y' : U) → R x x' → R y y' → s.level x y ≡ s'.level x' y'

module _ {V U : Type 0} (s : Scale V) (s' : Scale U) {R : V → U → Type 0} (al : Alike s s' R) (m : ℕ) where
  value_same : (T : List V) (T' : List U) → Match R T T' → length T ≡ m → (k : ℕ) → 1 ≤ k → k ≤ m → R (value_of s.none T k) (value_of s'.none T' k)
  unfolding value_of
  value_same T T' t l zero p q = absurd (omega arith)
  value_same T T' t l (suc k) p q = match-at t k (omega arith) s.none s'.none

  before_same : (T : List V) (T' : List U) → Match R T T' → length T ≡ m → (es : List Link) → Known m es → AgreeOn (before_by s T) (before_by s' T') es
  before_same T T' t l es known e f i j =
      let p = value_same T T' t l e.number (known e i).0 (known e i).1 in
      let q = value_same T T' t l f.number (known f j).0 (known f j).1 in
      ap₂ (λ (a b : Bool). a || (b && ltb e.number f.number)) (al.ahead _ _ _ _ p q) (al.level _ _ _ _ p q)

  forest-same : (T : List V) (T' : List U) → Match R T T' → length T ≡ m → (es : List Link) → Known m es → forest_by s T es ≡ forest_by s' T' es
  forest-same T T' t l es known = forest-agree (before_by s T) (before_by s' T') es (before_same T T' t l es known)

  pub tree-same : (T : List V) (T' : List U) → Match R T T' → length T ≡ m → (es : List Link) → Known m es → tree_by s T es ≡ tree_by s' T' es
  tree-same T T' t l es known = ap numbers (forest-same T T' t l es known)

  pub entries-same : (T : List V) (T' : List U) → Match R T T' → length T ≡ m → (es : List Link) → Known m es
      → {cs : List (Move V)} {ds : List (Move U)} → Match (Twin R) cs ds → entries_by s T es cs ≡ entries_by s' T' es ds
  unfolding entries_by
  entries-same T T' t l es known over = refl
  entries-same T T' t l es known (more {x = c} {y = d} q n) =
      let l' = placed-length T c.link c.to ∙ l in
      let t' = match-moved t q in
      ap₂ (λ (e : Entry) (r : List Entry). e ∷ r)
      (ap₂ (λ (a b : List ℕ). entry a b) (tree-same T T' t l es known) (tree-same (moved T c) (moved T' d) t' l' es known))
      (entries-same (moved T c) (moved T' d) t' l' es known n)

  -- The first tear.
  module _ (test : V → Bool) (test' : U → Bool) (tests : (x : V) (x' : U) → R x x' → test x ≡ test' x') where
    late-same : (T : List V) (T' : List U) → Match R T T' → length T ≡ m → (ks : List ℕ) → ((k : ℕ) → among k ks ≡ true → (1 ≤ k) × (k ≤ m))
        → late_by test s T ks ≡ late_by test' s' T' ks
    unfolding late_by among
    late-same T T' t l [] h = refl
    late-same T T' t l (k ∷ ks) h =
        let r = h k (or_left (eqb k k) (among k ks) (eq-eqb k k refl)) in
        ap₂ (λ (a b : Bool). a || b) (tests _ _ (value_same T T' t l k r.0 r.1))
        (late-same T T' t l ks (λ j a. h j (or_right (eqb j k) (among j ks) a)))

    pub torn-same : (T : List V) (T' : List U) → Match R T T' → length T ≡ m → (es : List Link) → Known m es → torn_by test s T es ≡ torn_by test' s' T' es
    torn-same T T' t l es known =
        late-same T T' t l (tree_by s T es) (λ k a.
        let r = numbers-in k (forest_by s T es) a in
        let q = known r.0 (forest-sub (before_by s T) es r.0 r.1) in
        (omega (arith, q.0, r.2), omega (arith, q.1, r.2)))
        ∙ ap (late_by test' s' T') (tree-same T T' t l es known)

    pub tear-same : (T : List V) (T' : List U) → Match R T T' → length T ≡ m → (es : List Link) → Known m es
        → {cs : List (Move V)} {ds : List (Move U)} → Match (Twin R) cs ds → first_tear_by test s T es cs ≡ first_tear_by test' s' T' es ds
    unfolding first_tear_by
    tear-same T T' t l es known over = refl
    tear-same T T' t l es known (more {x = c} {y = d} q n) =
        let l' = placed-length T c.link c.to ∙ l in
        let t' = match-moved t q in
        ap₂ (λ (b : Bool) (r : ℕ). cond b 0 (suc r)) (torn-same (moved T c) (moved T' d) t' l' es known)
        (tear-same (moved T c) (moved T' d) t' l' es known n)

  -- The work.
  thinned-same : (T : List V) (T' : List U) → Match R T T' → length T ≡ m → (g : Block) → Known m g.links
      → (cs : List (Move V)) (ds : List (Move U)) → Match (Twin R) cs ds → thinned_by s T cs g ≡ thinned_by s' T' ds g
  thinned-same T T' t l g known cs ds n =
      let e : named cs ≡ named ds = λ i k. named-same n k i in
      thinned-agree (before_by s T) (before_by s' T') (named cs) g (before_same T T' t l g.links known)
      ∙ ap (λ (p : ℕ → Bool). thinned p (before_by s' T') g) e

  known-thinned : (T : List V) (g : Block) → Known m g.links → (cs : List (Move V)) → Known m (thinned_by s T cs g).links
  known-thinned T g known cs e i =
      let r = thinned-numbers (named cs) (before_by s T) g i in
      let q = known r.0 r.1 in
      (omega (arith, q.0, r.2), omega (arith, q.1, r.2))

  block_same : (f : ℕ) (T : List V) (T' : List U) → Match R T T' → length T ≡ m → (g : Block) → Known m g.links
      → {cs : List (Move V)} {ds : List (Move U)} → Match (Twin R) cs ds → block_work_by s f T g cs ≡ block_work_by s' f T' g ds
  unfolding block_work_by
  block_same zero T T' t l g known n = refl
  block_same (suc f) T T' t l g known over = refl
  block_same (suc f) T T' t l g known (more q over) = refl
  block_same (suc f) T T' t l g known (more {x = c} {y = d} q (more {x = c₂} {y = d₂} {xs = cs} {ys = ds} q₂ n)) =
      let all = c ∷ c₂ ∷ cs in
      let all' = d ∷ d₂ ∷ ds in
      let a : Match (Twin R) all all' = more q (more q₂ n) in
      let h = half all in
      let he : half all ≡ half all' = ap (λ (k : ℕ). (k + 1) / 2) (match-length a) in
      let b = thinned_by s T all g in
      let be : b ≡ thinned_by s' T' all' g = thinned-same T T' t l g known all all' a in
      let kb = known-thinned T g known all in
      let first = match-take h a in
      ap₂ (λ (x y : ℕ). length g.links + (x + y))
      (block_same f T T' t l b kb first)
      (block_same f (moved_by T (take h all)) (moved_by T' (take h all')) (match-moved_by first t) (moved_length T (take h all) ∙ l) b kb (match-drop h a))
      ∙ ap₂ (λ (x : ℕ) (b : Block).
      length g.links + (block_work_by s' f T' b (take x all') + block_work_by s' f (moved_by T' (take x all')) b (drop x all'))) he be

  batch-same : (f : ℕ) (T : List V) (T' : List U) → Match R T T' → length T ≡ m → (g : Block) → Known m g.links
      → {cs : List (Move V)} {ds : List (Move U)} → Match (Twin R) cs ds → batch_work_by s f T g cs ≡ batch_work_by s' f T' g ds
  unfolding batch_work_by
  batch-same zero T T' t l g known n = refl
  batch-same (suc f) T T' t l g known over = refl
  batch-same (suc f) T T' t l g known (more {x = c} {y = d} {xs = cs} {ys = ds} q n) =
      let k = length g.links in
      let all = c ∷ cs in
      let all' = d ∷ ds in
      let a : Match (Twin R) all all' = more q n in
      let top = match-take k a in
      ap₂ (λ (x y : ℕ). x + y)
      (block_same (length (take k all)) T T' t l g known top
      ∙ ap (λ (f : ℕ). block_work_by s' f T' g (take k all')) (match-length top))
      (batch-same f (moved_by T (take k all)) (moved_by T' (take k all')) (match-moved_by top t) (moved_length T (take k all) ∙ l) g known (match-drop k a))

  pub work-same : (T : List V) (T' : List U) → Match R T T' → length T ≡ m → (g : Block) → Known m g.links
      → (cs : List (Move V)) (ds : List (Move U)) → Match (Twin R) cs ds → work_by s T g cs ≡ work_by s' T' g ds
  work-same T T' t l g known cs ds n =
      batch-same (length cs) T T' t l g known n ∙ ap (λ (f : ℕ). batch_work_by s' f T' g ds) (match-length n)
