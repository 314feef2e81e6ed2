-- Loop-free links, and how many there are.
use Rattle.std.proofs.Common.{◌≡◌, ℕ, suc, ◌≤◌, ◌≢◌, ◌⊎◌, List, [], ◌∷◌, ◌++◌, length, sym, refl, ap, inl, inr, arith}
use Rattle.block_records.specs.declared.Link.{Link}
use Rattle.graphs.specs.Graph.{In, here, later, Walk}
use Rattle.graphs.specs.Forest.{Distinct, LoopFree}
use Rattle.graphs.proofs.Joined.{◌⊆◌, Spans, joined-walk, walk-joined, walk-trans, walk-sym, walk-mono, walk-dec, walk-or}
use Rattle.graphs.proofs.Lists.{in-cons, in-others}
use Rattle.graphs.proofs.Loops.{unjoined}
use Rattle.graphs.proofs.Walks.{hop, reroute, in_left, in_right, in_either}

-- Loop-free links: each has ends that the ones before it, with the links `os`, do not join.

pub data Free : List Link → List Link → Type 0 where
  bare : {os : List Link} → Free os []
  grown : {os es : List Link} {e : Link} → (Walk os e.a.0 e.b.0 → ⊥) → Free (e ∷ os) es → Free os (e ∷ es)

also : {b : Link} {es fs : List Link} → Walk fs b.a.0 b.b.0 → ((e : Link) → In e es → Walk fs e.a.0 e.b.0)
    → (e : Link) → In e (b ∷ es) → Walk fs e.a.0 e.b.0
also w f e here = w
also w f e (later i) = f e i

slip : {e : Link} (c : Link) (bs os : List Link) → In e (bs ++ os) → In e (bs ++ (c ∷ os))
slip c bs os i = elim (in_either bs i) [ inl j ↦ in_left _ j | inr j ↦ in_right bs (later j) ]

-- A link that is not joined by `os` takes the place of one of `bs`.
swap : {os : List Link} (c : Link) (bs : List Link) → (Walk os c.a.0 c.b.0 → ⊥) → Walk (bs ++ os) c.a.0 c.b.0
    → (ds : List Link) × (suc (length ds) ≡ length bs) × ((e : Link) → In e (bs ++ os) → Walk (ds ++ (c ∷ os)) e.a.0 e.b.0)
swap c [] n w = absurd (n w)
swap {os} c (b ∷ bs) n w =
    elim (walk-dec (bs ++ os) c.a.0 c.b.0) [
      | inl v ↦ let s = swap c bs n v in
          (b ∷ s.0, ap suc s.1, also {b = b} (hop here) (λ e i. walk-mono (λ f j. later j) (s.2 e i)))
      | inr m ↦ (bs, refl, also (round m (walk-or b (bs ++ os) w)) (λ e i. hop (slip c bs os i)))
    ]
  where
    across : Walk (bs ++ (c ∷ os)) c.a.0 c.b.0
    across = hop (in_right bs here)

    in-new : {x y : ℕ} → Walk (bs ++ os) x y → Walk (bs ++ (c ∷ os)) x y
    in-new v = walk-mono (λ f j. slip c bs os j) v

    round : (Walk (bs ++ os) c.a.0 c.b.0 → ⊥)
        → Walk (bs ++ os) c.a.0 c.b.0 ⊎ ((Walk (bs ++ os) c.a.0 b.a.0 × Walk (bs ++ os) b.b.0 c.b.0)
        ⊎ (Walk (bs ++ os) c.a.0 b.b.0 × Walk (bs ++ os) b.a.0 c.b.0))
        → Walk (bs ++ (c ∷ os)) b.a.0 b.b.0
    round m (inl v) = absurd (m v)
    round m (inr (inl p)) = walk-trans (walk-sym (in-new p.0)) (walk-trans across (walk-sym (in-new p.1)))
    round m (inr (inr p)) = walk-trans (in-new p.1) (walk-trans (walk-sym across) (in-new p.0))

-- Loop-free links are at most as many as links that join their ends.
pub free-rank : {os es : List Link} (bs : List Link) → Free os es → ((e : Link) → In e es → Walk (bs ++ os) e.a.0 e.b.0) → length es ≤ length bs
free-rank bs bare h = omega arith
free-rank bs (grown n f) h =
    let s = swap _ bs n (h _ here) in
    let r = free-rank s.0 f (λ e i. reroute s.2 (h e (later i))) in
    omega (arith, s.1)

-- Links of a loop-free set, each taken once, are so.
pub free_part : {T : List Link} → LoopFree T → (os fs : List Link) → Distinct fs → fs ⊆ T
    → ((f : Link) → In f os → In f T × ((e : Link) → In e fs → e.number ≢ f.number)) → Free os fs
free_part l os [] d h k = bare
free_part {T} l os (e ∷ fs) d h k =
    grown
    (λ w. unjoined (l e (h e here)) (walk-joined (walk-mono (λ f j. in-others e (k f j).0 (λ q. (k f j).1 e here (sym q))) w)))
    (free_part l (e ∷ os) fs d.1 (λ f j. h f (later j)) (λ f j.
    in-cons (λ f. In f T × ((e : Link) → In e fs → e.number ≢ f.number)) j
    (h e here, λ c i q. d.0 c i (sym q)) (λ j. ((k f j).0, λ c i. (k f j).1 c (later i)))))

-- Rank: loop-free links are no more than any links that join their ends.
pub rank : (A B : List Link) → Distinct A → LoopFree A → Spans B A → length A ≤ length B
rank A B d l s =
    free-rank {os = []} {es = A} B (free_part l [] A d (λ e i. i) (λ f i. elim i [ ]))
    (λ e i. walk-mono (λ f j. in_left [] j) (joined-walk B (s e i)))
