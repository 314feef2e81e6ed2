-- A batch in top blocks.
use Rattle.std.proofs.Common.{◌≡◌, ℕ, zero, suc, ◌+◌, ◌-◌, ◌*◌, ◌^◌, ◌<◌, ◌≤◌, min, List, [], ◌∷◌, ◌++◌, length, take, drop, sym, refl, ap, ◌∙◌, ap₂, inl, inr, mul-le-mul, arith}
use Rattle.std.proofs.lemmas.Bool.{cases_lt}
use Rattle.std.proofs.lemmas.Bool.Decides.{nat_tests}
use Rattle.std.proofs.lemmas.List.{length-drop, length-map, length-take-le, take-map, drop-map, map-append, take_all, drop_all, drop-drop}
use Rattle.std.proofs.lemmas.Slice.{take-put_mid}
use borrow.Rule.Slice.PartMut.{put_mid}
use Rattle.block_records.specs.Words.{move_of, moves_in, exchange_of, entries_in}
use Rattle.block_records.specs.declared.Link.{Link}
use Rattle.graphs.specs.Thin.{Block}
use Rattle.block_records.specs.declared.Move.{Move}
use Rattle.plans.specs.Places.{moved_by}
use Rattle.plans.specs.Plan.{entries_by, Entry, entries}
use Rattle.plans.specs.Work.{block_work, work, least_power, doublings}
use Rattle.plans.specs.Places.{by_place}
use Rattle.plans.proofs.Orders.{lawful-places}
use Rattle.plans.proofs.Work.{work-bound}
use Rattle.thinning.proofs.Merging.{ascends-distinct}
use Rattle.blocks.specs.Block.{Sound}
use Rattle.blocks.proofs.Halving.{block_of}
use Rattle.plans.proofs.Halves.{entries-append, moved-append}
use Rattle.plans.proofs.Work.{work-split, batch-none}

pub take-parts : (i d : ℕ) (xs : List (Move ℕ)) → take i xs ++ take d (drop i xs) ≡ take (i + d) xs
take-parts zero d xs = let e : d ≡ 0 + d = omega arith in ap (λ n. take n xs) e
take-parts (suc i) d [] = take_all d [] (omega arith) ∙ sym (take_all (suc i + d) [] (omega arith))
take-parts (suc i) d (x ∷ xs) =
    let e : suc i + d ≡ suc (i + d) = omega arith in
    ap (λ (l : List (Move ℕ)). x ∷ l) (take-parts i d xs) ∙ sym (ap (λ n. take n (x ∷ xs)) e)

-- After i changes of a batch.
pub record Made (P0 P : List ℕ) (g : Block) (all : List (Move ℕ)) (out : List Entry) (n i : ℕ) : Type 0 where
  pub low : i ≤ length all
  pub moves : P ≡ moved_by P0 (take i all)
  pub made : take i out ≡ entries P0 g.links (take i all)
  pub counts : n + work P g (drop i all) ≡ work P0 g all

pub made_none : (P0 : List ℕ) (g : Block) (all : List (Move ℕ)) (out : List Entry) → Made P0 P0 g all out 0 0
unfolding moved_by entries_by
made_none P0 g all out = record { low = omega arith; moves = refl; made = refl; counts = omega arith }

module _ (P0 P : List ℕ) (g : Block) (all : List (Move ℕ)) (out : List Entry) (count i j : ℕ) (m : Made P0 P g all out count i)
    (lt : i < length all) (some : 1 ≤ length g.links) (e : j ≡ min (length all) (i + length g.links))
    (S : List (Move ℕ)) (s : S ≡ take (j - i) (drop i all)) where
  -- The block that begins at i is the first top block of what is left.
  top-is : S ≡ take (length g.links) (drop i all)
  top-is =
      let d = length-drop i all in
      s ∙ elim (cases_lt (i + length g.links) (length all)) [
        | inl h ↦ let f : j - i ≡ length g.links = omega arith in ap (λ n. take n (drop i all)) f
        | inr h ↦ take_all (j - i) (drop i all) (omega arith) ∙ sym (take_all (length g.links) (drop i all) (omega arith))
      ]

  rest-is : drop (length g.links) (drop i all) ≡ drop j all
  rest-is =
      drop-drop (length g.links) i all
      ∙ elim (cases_lt (i + length g.links) (length all)) [
        | inl h ↦ let f : i + length g.links ≡ j = omega arith in ap (λ n. drop n all) f
        | inr h ↦ drop_all (i + length g.links) all h ∙ sym (drop_all j all (omega arith))
      ]

  pub top-work : work P g (drop i all) ≡ block_work (length S) P g S + work (moved_by P S) g (drop j all)
  top-work =
      let d = length-drop i all in
      work-split P g (drop i all) some (omega arith)
      ∙ ap₂ (λ (x : List (Move ℕ)) (y : List (Move ℕ)). block_work (length x) P g x + work (moved_by P x) g y) (sym top-is) rest-is

  pub made_more : (P' : List ℕ) (out' o : List Entry) (count' : ℕ) → take j out' ≡ take i out ++ o
      → P' ≡ moved_by P S → o ≡ entries P g.links S → count' ≡ count + block_work (length S) P g S → Made P0 P' g all out' count' j
  made_more P' out' o count' l p q k =
      let f : i + (j - i) ≡ j = omega arith in
      let t : take i all ++ S ≡ take j all = ap (λ (x : List (Move ℕ)). take i all ++ x) s ∙ take-parts i (j - i) all ∙ ap (λ n. take n all) f in
      let w = top-work in
      let v = ap (λ (x : List ℕ). work x g (drop j all)) p in
      let c = m.counts in
      record {
        low = omega arith;
        moves = p ∙ ap (λ (x : List ℕ). moved_by x S) m.moves ∙ sym (moved-append P0 (take i all) S) ∙ ap (moved_by P0) t;
        made = l ∙ ap₂ (λ (x y : List Entry). x ++ y) m.made (q ∙ ap (λ (x : List ℕ). entries x g.links S) m.moves)
            ∙ sym (entries-append P0 g.links (take i all) S) ∙ ap (entries P0 g.links) t;
        counts = omega arith;
      }

-- The changes of the top block that begins at i and ends before j, in a table of moves.
pub record Top (es : List Link) (table : List (List ℕ)) (i j : ℕ) : Type 0 where
  pub lt : i < length (moves_in table)
  pub some : 1 ≤ length es
  pub end : j ≡ min (length (moves_in table)) (i + length es)
  pub part : moves_in (take (j - i) (drop i table)) ≡ take (j - i) (drop i (moves_in table))
  pub long : length (take (j - i) (drop i table)) ≡ j - i

pub top : (n m : ℕ) (es : List Link) (table : List (List ℕ)) (i j : ℕ) → Sound n m es (moves_in table) → i < length table → j ≡ min (length table) (i + length es) → Top es table i j
top n m es table i j s l e =
    let k = length-map table move_of in
    let d = length-drop i table in
    let b = s.known 0 (omega arith) in
    let t = length-take-le (j - i) (drop i table) (omega (arith, s.many)) in
    record {
      lt = omega arith;
      some = omega (arith, s.many);
      end = e ∙ ap (λ x. min x (i + length es)) (sym k);
      part = sym (ap (take (j - i)) (drop-map move_of i table) ∙ take-map move_of (j - i) (drop i table));
      long = t;
    }

-- Entries written over the part of a table from i to j.
pub written : (out o : List (List ℕ)) (i j : ℕ) → i ≤ j → i ≤ length out → length o ≡ j - i
    → take j (entries_in (put_mid i (j - i) out o)) ≡ take i (entries_in out) ++ entries_in o
written out o i j h l n =
    take-map exchange_of j (put_mid i (j - i) out o) ∙ ap entries_in (take-put_mid i (j - i) out o j (omega arith) l)
    ∙ map-append exchange_of (take i out) o ∙ ap (λ (x : List Entry). x ++ entries_in o) (sym (take-map exchange_of i out))

pub made_all : (P0 P : List ℕ) (g : Block) (all : List (Move ℕ)) (out : List Entry) (count i : ℕ) → Made P0 P g all out count i → length all ≤ i → length out ≡ length all
    → (P ≡ moved_by P0 all) × (out ≡ entries P0 g.links all) × (count ≡ work P0 g all)
made_all P0 P g all out count i m l lo =
    let t = take_all i all l in
    let d : work P g (drop i all) ≡ 0 = ap (work P g) (drop_all i all l) ∙ batch-none 0 P g in
    let c = m.counts in (
      m.moves ∙ ap (moved_by P0) t,
      sym (take_all i out (omega arith)) ∙ m.made ∙ ap (entries P0 g.links) t,
      omega arith,
    )

-- The least power is at most what it is sought among.
power-low : (m n : ℕ) → least_power m n ≤ n
unfolding least_power
power-low m zero = omega arith
power-low m (suc n) = let h = power-low m n in grind (arith, nat_tests)

-- The work of a batch fits 64 bits.
pub work-fits : (n m : ℕ) (es : List Link) (cs : List (Move ℕ)) (places : List ℕ) → Sound n m es cs → m ≤ 2 ^ 20 → length cs ≤ 2 ^ 32
    → work places (block_of n es) cs < 2 ^ 64
work-fits n m es cs places s a b =
    let h = work-bound by_place lawful-places (block_of n es) (ascends-distinct es s.ascends) places cs in
    let d : doublings (length es) ≤ 2 ^ 20 = omega (arith, power-low (length es) (length es), s.many) in
    let x : 4 * length cs ≤ 4 * 2 ^ 32 = omega arith in
    let y = mul-le-mul x d in
    omega (arith, s.many)
