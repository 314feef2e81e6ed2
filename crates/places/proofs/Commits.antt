-- Changes made one by one, and what words hold, two by two.
use Rattle.std.proofs.Common.{◌≡◌, ℕ, zero, suc, ◌+◌, ◌-◌, ◌<◌, ◌≤◌, List, [], ◌∷◌, ◌++◌, length, get_or, take, set, sym, refl, ap, ◌∙◌, ap₂, arith}
use Rattle.std.proofs.lemmas.List.{take_more, take_more_set, take_all}
use Rattle.network.specs.declared.types.LinkState.{LinkState}
use Rattle.network.specs.declared.types.Change.{Change}
use Rattle.block_records.specs.declared.Move.{Move}
use Rattle.plans.specs.Network.{link_of, changed_link, altered_link, changed, changed_by}
use Rattle.plans.proofs.Standings.{altered-set}
use Rattle.places.specs.Moves.{place_moves}
use Rattle.places.proofs.Judging.{altered-link-length}

altered-link : {W : Type 0} (f : LinkState W → LinkState W) (links : List (LinkState W)) (k : ℕ) (d : LinkState W) → 1 ≤ k → k ≤ length links
    → altered_link f links k ≡ set links (k - 1) (f (get_or links (k - 1) d))
unfolding altered_link
altered-link f links zero d h l = absurd (omega arith)
altered-link f links (suc k) d h l = let e : suc k - 1 ≡ k = omega arith in rw e (altered-set f links k d (omega arith))

pub changed-set : {W : Type 0} (links : List (LinkState W)) (c : Change W) (d : LinkState W) → 1 ≤ link_of c → link_of c ≤ length links
    → changed links c ≡ set links (link_of c - 1) (changed_link c (get_or links (link_of c - 1) d))
changed-set links c d h l = altered-link (changed_link c) links (link_of c) d h l

changed-append : {W : Type 0} (links : List (LinkState W)) (cs : List (Change W)) (c : Change W) → changed_by links (cs ++ c ∷ []) ≡ changed (changed_by links cs) c
unfolding changed_by
changed-append links [] c = refl
changed-append links (b ∷ cs) c = changed-append (changed links b) cs c

pub changed-more : {W : Type 0} (links : List (LinkState W)) (batch : List (Change W)) (i : ℕ) (d : Change W) → i < length batch
    → changed (changed_by links (take i batch)) (get_or batch i d) ≡ changed_by links (take (i + 1) batch)
changed-more {W} links batch i d l =
    sym (ap (λ (cs : List (Change W)). changed_by links cs) (take_more batch i d l) ∙ changed-append links (take i batch) (get_or batch i d))

pub changed-none : {W : Type 0} (links : List (LinkState W)) (batch : List (Change W)) → changed_by links (take 0 batch) ≡ links
unfolding changed_by
changed-none links batch = refl

pub changed-length : {W : Type 0} (links : List (LinkState W)) (batch : List (Change W)) → length (changed_by links batch) ≡ length links
unfolding changed_by
changed-length links [] = refl
changed-length links (c ∷ cs) = changed-length (changed links c) cs ∙ altered-link-length (changed_link c) links (link_of c)

-- A table filled from the front with what a list has.
pub filled_more : {X : Type 0} (xs ys zs : List X) (i : ℕ) (v d : X) → i < length xs → i < length ys → zs ≡ set xs i v → v ≡ get_or ys i d
    → take i xs ≡ take i ys → take (i + 1) zs ≡ take (i + 1) ys
filled_more {X} xs ys zs i v d l m e q h =
    ap (take (i + 1)) e ∙ take_more_set xs i v l ∙ ap (λ (t : List X). t ++ v ∷ []) h ∙ ap (λ (x : X). take i ys ++ x ∷ []) q ∙ sym (take_more ys i d m)

pub filled-all : {X : Type 0} (xs ys : List X) (i : ℕ) → length xs ≤ i → length xs ≡ length ys → take i xs ≡ take i ys → xs ≡ ys
filled-all xs ys i l n h = sym (take_all i xs l) ∙ h ∙ take_all i ys (omega arith)

pub moves-length : {W : Type 0} (batch : List (Change W)) (ps : List ℕ) → length ps ≡ length batch → length (place_moves batch ps) ≡ length batch
unfolding place_moves
moves-length [] ps n = refl
moves-length (c ∷ cs) [] n = absurd (omega arith)
moves-length (c ∷ cs) (p ∷ ps) n = ap suc (moves-length cs ps (omega arith))

pub moves-at : {W : Type 0} (batch : List (Change W)) (ps : List ℕ) (i : ℕ) (d : Change W) (m : Move ℕ) → i < length batch → i < length ps
    → get_or (place_moves batch ps) i m ≡ record { link = link_of (get_or batch i d); to = get_or ps i 0 }
unfolding place_moves
moves-at [] ps i d m l k = absurd (omega arith)
moves-at (c ∷ cs) [] i d m l k = absurd (omega arith)
moves-at (c ∷ cs) (p ∷ ps) zero d m l k = refl
moves-at (c ∷ cs) (p ∷ ps) (suc i) d m l k = moves-at cs ps i d m (omega arith) (omega arith)

-- The same of what the code read and wrote.
pub change-told : {W : Type 0} (links : List (LinkState W)) (c : Change W) (k : ℕ) (d x : LinkState W) → 1 ≤ link_of c → link_of c ≤ length links
    → k ≡ link_of c → d ≡ get_or links (k - 1) d → x ≡ changed_link c d → set links (k - 1) x ≡ changed links c
change-told {W} links c k d x h l e i v =
    ap₂ (λ (j : ℕ) (y : LinkState W). set links (j - 1) y) e (v ∙ ap (λ (y : LinkState W). changed_link c y) (i ∙ ap (λ (j : ℕ). get_or links (j - 1) d) e))
    ∙ sym (changed-set links c d h l)

pub changes-told : {W : Type 0} (links now next : List (LinkState W)) (batch : List (Change W)) (i : ℕ) (d : Change W) → i < length batch → d ≡ get_or batch i d
    → now ≡ changed_by links (take i batch) → next ≡ changed now d → next ≡ changed_by links (take (i + 1) batch)
changes-told {W} links now next batch i d l e h n =
    n ∙ ap₂ (λ (s : List (LinkState W)) (c : Change W). changed s c) h e ∙ changed-more links batch i d l

pub moves-told : {W : Type 0} (batch : List (Change W)) (ps : List ℕ) (i k : ℕ) (d : Change W) (m : Move ℕ) → i < length batch → i < length ps
    → d ≡ get_or batch i d → k ≡ link_of d → ◌≡◌ {A = Move ℕ} (record { link = k; to = get_or ps i 0 }) (get_or (place_moves batch ps) i m)
moves-told {W} batch ps i k d m l n e q =
    let f : ℕ → Move ℕ = λ j. record { link = j; to = get_or ps i 0 } in
    ap f (q ∙ ap (λ (c : Change W). link_of c) e) ∙ sym (moves-at batch ps i d m l n)
