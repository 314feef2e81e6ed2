-- What the states of links say of a change.
use Rattle.std.proofs.Common.{◌≡◌, ℕ, zero, suc, ◌+◌, ◌-◌, ◌<◌, ◌≤◌, Bool, true, false, cond, not, ◌||◌, eqb, ltb, List, [], ◌∷◌, length, get_or, Some, None, Ok, Err, sym, refl, ap, ◌∙◌, arith}
use Rattle.std.proofs.lemmas.List.{length-map}
use Rattle.std.proofs.lemmas.Bool.{cond-true, cond-false, eq-eqb, ne_eqb, or_from, le-ltb}
use Rattle.std.proofs.lemmas.Bool.Decides.{nat_tests}
use Rattle.faults.specs.declared.DrawFault.{DrawFault}
use Rattle.faults.specs.declared.DrawFault.TheVariants.{LinkOutside, RemoveAbsent}
use Rattle.weights.specs.declared.standing.Standing.TheVariants.{Absent}
use Rattle.network.specs.declared.types.LinkState.{LinkState}
use Rattle.network.specs.declared.types.Change.{Change}
use Rattle.network.specs.declared.types.Change.TheVariants.{Set, Remove, Flip}
use Rattle.network.proofs.Refusing.{refusal-is}
use Rattle.plans.specs.Places.{value_of}
use Rattle.plans.specs.Network.{standing_if, standings, standing_at, is_at, link_of, altered, altered_link, changed_link, changed}
use Rattle.places.specs.Changes.{remove_fault, change_fault, changes_fault}
use Rattle.places.specs.Pool.{Judged, state_of, states}
use Rattle.places.proofs.Refusals.{cond-none, or_else-none}

pub states-length : {W : Type 0} (links : List (LinkState W)) → length (states links) ≡ length links
states-length {W} links = length-map links (λ (l : LinkState W). state_of l)

-- The value of a link as a table is read.
pub value_read : {V : Type 0} (none : V) (table : List V) (k : ℕ) → 1 ≤ k → value_of none table k ≡ get_or table (k - 1) none
unfolding value_of
value_read none table zero h = absurd (omega arith)
value_read none table (suc k) h = let e : suc k - 1 ≡ k = omega arith in rw e

-- A link is present exactly if its state is not 0.
state-in : {W : Type 0} (links : List (LinkState W)) (k : ℕ) → k < length links → is_at (get_or (standings links) k Absent) ≡ not (eqb (get_or (states links) k 0) 0)
state-in [] k h = absurd (omega arith)
state-in {W} (l ∷ links) zero h = one l.present
  where
    one : (p : Bool) → is_at (standing_if p l.weight) ≡ not (eqb (cond p 1 0) 0)
    one true = refl
    one false = refl
state-in (l ∷ links) (suc k) h = state-in links k (omega arith)

state-at : {W : Type 0} (links : List (LinkState W)) (k : ℕ) → 1 ≤ k → k ≤ length links → is_at (standing_at links k) ≡ not (eqb (get_or (states links) (k - 1) 0) 0)
state-at links k lo hi = ap is_at (value_read Absent (standings links) k lo) ∙ state-in links (k - 1) (omega arith)

module _ {W : Type 0} (i : ℕ) (links : List (LinkState W)) where
  judged-inside : (c : Change W) → 1 ≤ link_of c → link_of c ≤ length links → change_fault i links c ≡ remove_fault i links c
  judged-inside c lo hi = cond-false _ _ _ (or_from _ _ (ne_eqb (link_of c) 0 (omega arith)) (le-ltb _ _ hi))

  -- A change that is not refused names a link.
  pub judged-link : (c : Change W) → None ≡ change_fault i links c → (1 ≤ link_of c) × (link_of c ≤ length links)
  judged-link c e =
      let b = (cond-none (eqb (link_of c) 0 || ltb (length links) (link_of c)) (LinkOutside i) (remove_fault i links c) (sym e)).0 in
      (grind (arith, nat_tests), grind (arith, nat_tests))

  pub judged-absent : (c : Change W) (n : ℕ) → c ≡ Remove n → 1 ≤ link_of c → link_of c ≤ length links
      → get_or (states links) (link_of c - 1) 0 ≡ 0 → Some (RemoveAbsent i) ≡ change_fault i links c
  judged-absent (Set k w) n e lo hi s = absurd (let z : ◌≡◌ {A = ℕ} 0 1 = cc in omega arith)
  judged-absent (Remove k) n e lo hi s =
      sym (judged-inside (Remove k) lo hi ∙ cond-false _ _ _ (state-at links k lo hi ∙ ap not (eq-eqb _ _ s)))
  judged-absent (Flip k) n e lo hi s = absurd (let z : ◌≡◌ {A = ℕ} 0 1 = cc in omega arith)

  pub judged-present : (c : Change W) (n : ℕ) → c ≡ Remove n → 1 ≤ link_of c → link_of c ≤ length links
      → (get_or (states links) (link_of c - 1) 0 ≡ 0 → ⊥) → None ≡ change_fault i links c
  judged-present (Set k w) n e lo hi s = absurd (let z : ◌≡◌ {A = ℕ} 0 1 = cc in omega arith)
  judged-present (Remove k) n e lo hi s =
      sym (judged-inside (Remove k) lo hi ∙ cond-true _ _ _ (state-at links k lo hi ∙ ap not (ne_eqb _ _ s)))
  judged-present (Flip k) n e lo hi s = absurd (let z : ◌≡◌ {A = ℕ} 0 1 = cc in omega arith)

-- What an answer says of the change.
pub judged-granted : {W : Type 0} (i : ℕ) (c : Change W) (present : List ℕ) (links : List (LinkState W)) → Judged i c present (Ok tt) → present ≡ states links
    → None ≡ change_fault i links c
judged-granted i c present links j s = refusal-is (Ok tt) (change_fault i links c) tt (j links s)

pub judged-refused : {W : Type 0} (i : ℕ) (c : Change W) (present : List ℕ) (links : List (LinkState W)) (f : DrawFault) → Judged i c present (Err f) → present ≡ states links
    → Some f ≡ change_fault i links c
judged-refused i c present links f j s = refusal-is (Err f) (change_fault i links c) tt (j links s)

altered-length : {A : Type 0} (f : A → A) (xs : List A) (k : ℕ) → length (altered f xs k) ≡ length xs
unfolding altered
altered-length f [] k = refl
altered-length f (x ∷ xs) zero = refl
altered-length f (x ∷ xs) (suc k) = ap suc (altered-length f xs k)

pub altered-link-length : {W : Type 0} (f : LinkState W → LinkState W) (links : List (LinkState W)) (k : ℕ) → length (altered_link f links k) ≡ length links
unfolding altered_link
altered-link-length f links zero = refl
altered-link-length f links (suc k) = altered-length f links k

-- Each change of a batch that is not refused names a link.
pub granted-links : {W : Type 0} (i : ℕ) (links : List (LinkState W)) (batch : List (Change W)) → None ≡ changes_fault i links batch
    → (j : ℕ) (d : Change W) → j < length batch → (1 ≤ link_of (get_or batch j d)) × (link_of (get_or batch j d) ≤ length links)
unfolding changes_fault
granted-links i links [] e j d l = absurd (omega arith)
granted-links i links (c ∷ cs) e zero d l =
    judged-link i links c (sym (or_else-none (change_fault i links c) (changes_fault (i + 1) (changed links c) cs) (sym e)).0)
granted-links i links (c ∷ cs) e (suc j) d l =
    let r = granted-links (i + 1) (changed links c) cs (sym (or_else-none (change_fault i links c) (changes_fault (i + 1) (changed links c) cs) (sym e)).1) j d (omega arith) in
    (r.0, omega (arith, r.1, altered-link-length (changed_link c) links (link_of c)))
