-- Tallies of parts.
use Rattle.std.proofs.Common.{◌≡◌, ℕ, ◌+◌, ◌-◌, ◌^◌, ◌<◌, ◌≤◌, Bool, true, false, cond, ltb, List, [], ◌∷◌, ◌++◌, length, get_or, take, drop, Some, None, sym, refl, ap, ◌∙◌, subst, ap₂, inl, inr, add-zero, zero-add, arith}
use Rattle.std.proofs.lemmas.List.{length-append, take-append-drop, take_all}
use Rattle.std.proofs.lemmas.Bool.{cases_Bool, cond-true, cond-false, ltb-true, ltb-false, lt-ltb}
use Rattle.std.proofs.lemmas.Bool.Decides.{nat_tests}
use Rattle.block_records.specs.declared.Link.{Link}
use Rattle.graphs.specs.Thin.{Block}
use Rattle.graphs.specs.Thinning.{merges}
use Rattle.block_records.specs.declared.Move.{Move}
use Rattle.plans.specs.Places.{place_before, moved, moved_by}
use Rattle.plans.specs.Work.{named, half, thinned_for}
use Rattle.plans.proofs.Kept.{keeps-thinned}
use Rattle.thinning.proofs.Merging.{ascends-distinct}
use Rattle.blocks.proofs.Halving.{block_of}
use Rattle.plans.proofs.Halves.{Keeps, names-all}
use Rattle.leaves.specs.declared.tally.Tally.{Tally}
use Rattle.blocks.specs.Block.{no_move, Fits}
use Rattle.plans.specs.Tears.{torn_at, first_tear, first_tear_by}
use Rattle.blocks.specs.Telling.{tear_in, Told}
use Rattle.leaves.specs.Telling.{Spoke}
use Rattle.blocks.proofs.Batching.{take-parts}
use Rattle.blocks.proofs.Tears.{torn-thinned, tear-thinned, tear-low, tear-append, tear-none}

-- One part after the other.
shifted : (a n x y m p q : ℕ) → m ≡ a + n → p ≡ n + x → q ≡ n + y → tear_in m x y ≡ tear_in a p q
shifted a n x y m p q e f g =
    let l : ltb x y ≡ ltb p q = grind (arith, nat_tests) in
    let v : m + x ≡ a + p = omega arith in
    ap₂ (λ (b : Bool) (k : ℕ). cond b (Some k) None) l v

pub told-append : (t r s : Tally) (w v : ℕ) (ps : List ℕ) (es : List Link) (cs ds : List (Move ℕ)) → Told t r w ps es cs → Told r s v (moved_by ps cs) es ds
    → Told t s (w + v) ps es (cs ++ ds)
told-append t r s w v ps es cs ds x y =
    let n = length-append cs ds in
    record {
      work = omega (arith, x.work, y.work);
      place = y.place ∙ x.place;
      counts = omega (arith, x.counts, y.counts);
      stays = λ k h. y.stays k (x.stays k h);
      tells = λ a p h k.
          let f = x.tells a p h k in
          let e = tear-append a ps es cs ds in
          let low = tear-low a ps es cs in
          elim (cases_Bool (ltb (first_tear a ps es cs) (length cs))) [
            | inl u ↦
                let q : first_tear a ps es (cs ++ ds) ≡ first_tear a ps es cs = e ∙ cond-true _ _ _ u in
                let l : ltb (first_tear a ps es (cs ++ ds)) (length (cs ++ ds)) ≡ true = lt-ltb _ _ (omega (arith, ltb-true _ _ u)) in
                y.stays _ (f ∙ cond-true _ _ _ u) ∙ ap (λ (k : ℕ). Some (t.changes + k)) (sym q) ∙ sym (cond-true _ _ _ l)
            | inr u ↦
                let full : first_tear a ps es cs ≡ length cs = omega (arith, ltb-false _ _ u) in
                let b = y.tells a (x.place ∙ p) (f ∙ cond-false _ _ _ u) (tear-none a ps es cs k full) in
                let q : first_tear a ps es (cs ++ ds) ≡ length cs + first_tear a (moved_by ps cs) es ds = e ∙ cond-false _ _ _ u in
                b ∙ shifted t.changes (length cs) (first_tear a (moved_by ps cs) es ds) (length ds) r.changes _ _ x.counts q n
          ];
    }

-- On the thinned graph.
pub told-thinned : (t r : Tally) (w : ℕ) (ps : List ℕ) (cs : List (Move ℕ)) (g : Block) → Keeps ps cs g (merges (named cs) (place_before ps) g)
    → Told t r w ps (thinned_for ps cs g).links cs → Told t r w ps g.links cs
told-thinned t r w ps cs g keeps x = record {
  work = x.work;
  place = x.place;
  counts = x.counts;
  stays = x.stays;
  tells = λ a p h k.
      let e = torn-thinned a ps cs g keeps k ps (λ _ _. refl) in
      let f = x.tells a p h (sym e ∙ k) in
      let q = tear-thinned a ps cs g keeps k ps cs (names-all cs) (λ _ _. refl) in
      f ∙ ap (λ n. tear_in t.changes n (length cs)) (sym q);
}

-- With links received.
pub received : (t m : Tally) (x n : ℕ) → n ≡ x → m ≡ record { absent = t.absent; work = t.work + x; changes = t.changes; tear = t.tear }
    → m ≡ record { absent = t.absent; work = t.work + n; changes = t.changes; tear = t.tear }
received t m x n e h = subst (λ k. m ≡ record { absent = t.absent; work = t.work + k; changes = t.changes; tear = t.tear }) (sym e) h

pub told-received : (t m r : Tally) (n w : ℕ) (ps : List ℕ) (es : List Link) (cs : List (Move ℕ))
    → m ≡ record { absent = t.absent; work = t.work + n; changes = t.changes; tear = t.tear } → Told m r w ps es cs → Told t r (n + w) ps es cs
told-received t m r n w ps es cs e x =
    let y : Told (record { absent = t.absent; work = t.work + n; changes = t.changes; tear = t.tear }) r w ps es cs = subst (λ (z : Tally). Told z r w ps es cs) e x in
    record {
      work = omega (arith, y.work);
      place = y.place;
      counts = y.counts;
      stays = y.stays;
      tells = y.tells;
    }

-- A single change.
one_tear : (b : Bool) (m : ℕ) → cond b (Some m) None ≡ tear_in m (cond b 0 1) 1
one_tear true m = ap Some (sym (add-zero m))
one_tear false m = refl

pub told-one : (t r : Tally) (ps qs : List ℕ) (es : List Link) (cs : List (Move ℕ)) → t.changes + 1 < 2 ^ 64 → length cs ≡ 1 → qs ≡ moved ps (get_or cs 0 no_move)
    → Spoke t r qs es → Told t r 0 ps es cs
unfolding first_tear_by
told-one t r ps qs es [] fits l e x = absurd (omega arith)
told-one t r ps qs es (c ∷ []) fits l e x = record {
  work = omega (arith, x.work);
  place = x.place;
  counts = x.counts fits;
  stays = x.stays;
  tells = λ a p h k.
      let f = x.tells a p h ∙ ap (λ (z : List ℕ). cond (torn_at a z es) (Some t.changes) None) e in
      f ∙ one_tear (torn_at a (moved ps c) es) t.changes;
}
told-one t r ps qs es (c ∷ d ∷ cs) fits l e x = absurd (omega arith)

-- From the thinned graph to the block.
pub told-up : (t m r : Tally) (w W : ℕ) (ps : List ℕ) (k n : ℕ) (es : List Link) (cs : List (Move ℕ)) (f : Fits n k es cs) (n2 : ℕ) (es2 : List Link)
    → block_of n2 es2 ≡ thinned_for ps cs (block_of n es)
    → m ≡ record { absent = t.absent; work = t.work + length es; changes = t.changes; tear = t.tear }
    → length es + w ≡ W → Told m r w ps es2 cs → Told t r W ps es cs
told-up t m r w W ps k n es cs f n2 es2 g e tot x =
    let y : Told m r w ps (thinned_for ps cs (block_of n es)).links cs = subst (λ (b : Block). Told m r w ps b.links cs) g x in
    let z : Told m r w ps es cs = told-thinned m r w ps cs (block_of n es) (keeps-thinned ps cs (block_of n es) (ascends-distinct es f.ascends)) y in
    subst (λ v. Told t r v ps es cs) tot (told-received t m r (length es) w ps es cs e z)

pub told-halves : (m s r : Tally) (w v : ℕ) (ps q : List ℕ) (es : List Link) (cs F R : List (Move ℕ)) → F ≡ take (half cs) cs → R ≡ drop (half cs) cs → q ≡ moved_by ps F
    → Told m s w ps es F → Told s r v q es R → Told m r (w + v) ps es cs
told-halves m s r w v ps q es cs F R e_f e_r e x y =
    subst (λ (l : List (Move ℕ)). Told m r (w + v) ps es l) (ap₂ (λ (a b : List (Move ℕ)). a ++ b) e_f e_r ∙ take-append-drop (half cs) cs)
    (told-append m s r w v ps es F R x (subst (λ (p : List ℕ). Told s r v p es R) e y))

-- The tally of a batch before its first change, and after more of them.
abbrev pub start : ℕ → Tally
start absent = record { absent = absent; work = 0; changes = 0; tear = None }

pub told_none : (absent : ℕ) (ps : List ℕ) (es : List Link) → Told (start absent) (start absent) 0 ps es []
unfolding first_tear_by
told_none absent ps es = record {
  work = refl;
  place = refl;
  counts = refl;
  stays = λ k h. h;
  tells = λ a p h k. refl;
}

pub told_more : (t r s : Tally) (v : ℕ) (p0 ps : List ℕ) (es : List Link) (cs S : List (Move ℕ)) (i j : ℕ) → i + (j - i) ≡ j → S ≡ take (j - i) (drop i cs)
    → ps ≡ moved_by p0 (take i cs) → Told t r r.work p0 es (take i cs) → Told r s v ps es S → Told t s s.work p0 es (take j cs)
told_more t r s v p0 ps es cs S i j f k e x y =
    let q : take i cs ++ S ≡ take j cs = ap (λ (l : List (Move ℕ)). take i cs ++ l) k ∙ take-parts i (j - i) cs ∙ ap (λ n. take n cs) f in
    let z : Told t s (r.work + v) p0 es (take i cs ++ S) = told-append t r s r.work v p0 es (take i cs) S x (subst (λ (p : List ℕ). Told r s v p es S) e y) in
    subst (λ n. Told t s n p0 es (take j cs)) (sym y.work) (subst (λ (l : List (Move ℕ)). Told t s (r.work + v) p0 es l) q z)

pub told-all : (absent : ℕ) (s : Tally) (w : ℕ) (ps : List ℕ) (es : List Link) (cs : List (Move ℕ)) (i : ℕ) → length cs ≤ i → Told (start absent) s w ps es (take i cs)
    → torn_at absent ps es ≡ false → s.tear ≡ cond (ltb (first_tear absent ps es cs) (length cs)) (Some (first_tear absent ps es cs)) None
told-all absent s w ps es cs i l x k =
    let y : Told (start absent) s w ps es cs = subst (λ (d : List (Move ℕ)). Told (start absent) s w ps es d) (take_all i cs l) x in
    y.tells absent refl refl k ∙ ap (λ (n : ℕ). cond (ltb (first_tear absent ps es cs) (length cs)) (Some n) None) (zero-add (first_tear absent ps es cs))
