-- What is true of a draw follows from what it answers.
use Rattle.std.proofs.Common.{◌≡◌, ℕ, zero, suc, ◌+◌, ◌≤◌, Bool, true, false, ◌||◌, eqb, ltb, List, [], ◌∷◌, length, Some, None, Err, Option, sym, refl, ap, ◌∙◌, inl, inr, arith}
use Rattle.std.proofs.lemmas.Bool.{cases_Bool, cond_both, cond-true, cond-false, both_ways}
use Rattle.std.proofs.lemmas.Bool.Decides.{nat_tests}
use Rattle.faults.specs.declared.DrawFault.{DrawFault}
use Rattle.faults.specs.declared.DrawFault.TheVariants.{NotOpened, ChangeCount, ShortTables, LinkOutside, RemoveAbsent, Parted}
use Rattle.weights.specs.declared.order.Side.{Side}
use Rattle.network.specs.declared.types.Ends.{Ends}
use Rattle.network.specs.declared.types.LinkState.{LinkState}
use Rattle.network.specs.declared.types.Change.{Change}
use Rattle.network.specs.declared.types.Change.TheVariants.{Set, Remove, Flip}
use Rattle.network.specs.Ends.{first_end_fault, or_else}
use Rattle.graphs.specs.Spanning.{all_joined}
use Rattle.graphs.proofs.Trees.{all-joined}
use Rattle.plans.specs.Network.{Sided, graph_of, present_links, is_at, standing_at, link_of, changed, changed_by, links_at, work_count, parted_from, parted_at}
use Rattle.plans.proofs.Theorems.{plans-replay, work-bounded}
use Rattle.plans.proofs.Standings.{faultless-within}
use Rattle.planner.specs.declared.drawn.Drawn.{Drawn}
use Rattle.drawing.specs.Tables.{joined}
use Rattle.places.specs.Changes.{remove_fault, change_fault, changes_fault}
use Rattle.drawing.specs.Answer.{parted_fault}
use Rattle.planner.specs.Truth.{WholeAt, Granted, Truth}

-- Some moment parts the network, or none does.
module _ {W : Type 0} (n : ℕ) (ends : List Ends) where
  whole-all : (k : ℕ) (links : List (LinkState W)) (batch : List (Change W)) → 1 ≤ k → joined n ends links ≡ true → parted_from k n ends links batch ≡ 0
      → (t : ℕ) → joined n ends (links_at links batch t) ≡ true
  unfolding parted_from changed_by
  whole-all k links batch h j p zero = j
  whole-all k links [] h j p (suc t) = j
  whole-all k links (c ∷ cs) h j p (suc t) =
      let J = all_joined n (present_links (changed links c) (graph_of ends)) in
      elim (cases_Bool J) [
        | inl b ↦ whole-all (suc k) (changed links c) cs (omega arith) b (sym (cond-true J (parted_from (suc k) n ends (changed links c) cs) k b) ∙ p) t
        | inr b ↦ absurd (omega (arith, sym (cond-false J (parted_from (suc k) n ends (changed links c) cs) k b) ∙ p))
      ]

  -- The first change that parts the network is from k on; before it all moments are whole, after it the network is parted.
  parted-first : (k i : ℕ) (links : List (LinkState W)) (batch : List (Change W)) → joined n ends links ≡ true → parted_from k n ends links batch ≡ i → 1 ≤ i
      → (k ≤ i) × ((t : ℕ) → t + k ≤ i → joined n ends (links_at links batch t) ≡ true) × ((t : ℕ) → t + k ≡ suc i → joined n ends (links_at links batch t) ≡ false)
  unfolding parted_from changed_by
  parted-first k i links [] j p h = absurd (omega arith)
  parted-first k i links (c ∷ cs) j p h =
      let J = all_joined n (present_links (changed links c) (graph_of ends)) in
      elim (cases_Bool J) [
        | inl b ↦
            let r = parted-first (suc k) i (changed links c) cs b (sym (cond-true J (parted_from (suc k) n ends (changed links c) cs) k b) ∙ p) h in
            (omega (arith, r.0), later-whole r, later-parted r)
        | inr b ↦
            let e : k ≡ i = sym (cond-false J (parted_from (suc k) n ends (changed links c) cs) k b) ∙ p in
            (omega (arith, e), first-whole e, first-parted e b)
      ]
    where
      later-whole : (suc k ≤ i) × ((t : ℕ) → t + suc k ≤ i → joined n ends (links_at (changed links c) cs t) ≡ true)
          × ((t : ℕ) → t + suc k ≡ suc i → joined n ends (links_at (changed links c) cs t) ≡ false)
          → (t : ℕ) → t + k ≤ i → joined n ends (links_at links (c ∷ cs) t) ≡ true
      later-whole r zero l = j
      later-whole r (suc t) l = r.1 t (omega arith)

      later-parted : (suc k ≤ i) × ((t : ℕ) → t + suc k ≤ i → joined n ends (links_at (changed links c) cs t) ≡ true)
          × ((t : ℕ) → t + suc k ≡ suc i → joined n ends (links_at (changed links c) cs t) ≡ false)
          → (t : ℕ) → t + k ≡ suc i → joined n ends (links_at links (c ∷ cs) t) ≡ false
      later-parted r zero l = absurd (omega (arith, r.0))
      later-parted r (suc t) l = r.2 t (omega arith)

      first-whole : k ≡ i → (t : ℕ) → t + k ≤ i → joined n ends (links_at links (c ∷ cs) t) ≡ true
      first-whole e zero l = j
      first-whole e (suc t) l = absurd (omega arith)

      first-parted : k ≡ i → all_joined n (present_links (changed links c) (graph_of ends)) ≡ false → (t : ℕ) → t + k ≡ suc i
          → joined n ends (links_at links (c ∷ cs) t) ≡ false
      first-parted e b zero l = absurd (omega arith)
      first-parted e b (suc zero) l = b
      first-parted e b (suc (suc t)) l = absurd (omega arith)

-- Whether a refusal says that the network parts. No check of a change does.
parting : Option DrawFault → Bool
parting None = false
parting (Some (NotOpened f)) = false
parting (Some ChangeCount) = false
parting (Some ShortTables) = false
parting (Some (LinkOutside i)) = false
parting (Some (RemoveAbsent i)) = false
parting (Some (Parted i)) = true

remove-parts : {W : Type 0} (i : ℕ) (links : List (LinkState W)) (c : Change W) → parting (remove_fault i links c) ≡ false
unfolding parting
remove-parts i links (Set k w) = refl
remove-parts i links (Remove k) = cond_both (is_at (standing_at links k)) None (Some (RemoveAbsent i)) (λ o. parting o ≡ false) (λ _. refl) (λ _. refl)
remove-parts i links (Flip k) = refl

or_else-parts : (o p : Option DrawFault) → parting o ≡ false → parting p ≡ false → parting (or_else o p) ≡ false
or_else-parts None p h k = k
or_else-parts (Some f) p h k = h

changes-part : {W : Type 0} (i : ℕ) (links : List (LinkState W)) (batch : List (Change W)) → parting (changes_fault i links batch) ≡ false
unfolding parting changes_fault
changes-part i links [] = refl
changes-part i links (c ∷ cs) =
    or_else-parts (change_fault i links c) (changes_fault (i + 1) (changed links c) cs)
    (cond_both (eqb (link_of c) 0 || ltb (length links) (link_of c)) (Some (LinkOutside i)) (remove_fault i links c) (λ o. parting o ≡ false) (λ _. refl) (λ _. remove-parts i links c))
    (changes-part (i + 1) (changed links c) cs)

-- A refusal at a change that parts the network gives its number.
parts_at : (o : Option DrawFault) (p i : ℕ) → parting o ≡ false → or_else o (parted_fault p) ≡ Some (Parted i) → (p ≡ i) × (1 ≤ i)
unfolding parting
parts_at None p i h e =
    elim (cases_Bool (eqb p 0)) [
      | inl t ↦ absurd (let q = sym (cond-true (eqb p 0) None (Some (Parted p)) t) ∙ e in let z : ◌≡◌ {A = ℕ} 0 1 = cc in omega arith)
      | inr f ↦ let q : Some (Parted p) ≡ Some (Parted i) = sym (cond-false (eqb p 0) None (Some (Parted p)) f) ∙ e in
          let r : p ≡ i = cc in (r, grind (arith, nat_tests))
    ]
parts_at (Some f) p i h e = absurd (both_ways (parting (Some f)) h (ap parting e))

module _ {W : Type 0} (side : W → W → Side) (laws : Sided side) (n : ℕ) (ends : List Ends) (links : List (LinkState W)) (batch : List (Change W))
    (some : 1 ≤ n) (sound : first_end_fault n 1 ends ≡ None) (whole : joined n ends links ≡ true) where
  pub granted-truth : (d : Drawn) → parted_at n ends links batch ≡ 0 → d.work ≡ work_count side n ends links batch → Granted side n ends links batch d
  granted-truth d p e =
      let w : (t : ℕ) → WholeAt side n ends links batch t = λ t. (all-joined n (present_links (links_at links batch t) (graph_of ends)) some).0 (whole-all n ends 1 links batch (omega arith) whole p t) in
      let r = plans-replay side laws n ends (faultless-within n 1 ends sound) links batch in
      let b = work-bounded side laws n ends links batch in
      record {
        whole = w;
        trees = r.moments w;
        one = r.one w;
        names = r.names;
        exponent = b.exponent;
        bound = omega (arith, e, b.bound);
      }

  pub refused-truth : (f : DrawFault) → or_else (changes_fault 1 links batch) (parted_fault (parted_at n ends links batch)) ≡ Some f
      → Truth side n ends links batch (Err f)
  refused-truth (NotOpened f) e = tt
  refused-truth ChangeCount e = tt
  refused-truth ShortTables e = tt
  refused-truth (LinkOutside i) e = tt
  refused-truth (RemoveAbsent i) e = tt
  refused-truth (Parted i) e =
      let a = parts_at (changes_fault 1 links batch) (parted_at n ends links batch) i (changes-part 1 links batch) e in
      let r = parted-first n ends 1 i links batch whole a.0 a.1 in
      let at = λ (t : ℕ). all-joined n (present_links (links_at links batch t) (graph_of ends)) some in
      record {
        before = λ t l. (at t).0 (r.1 t (omega arith));
        after = λ h. both_ways (joined n ends (links_at links batch i)) (r.2 i (omega arith)) ((at i).1 h);
      }
