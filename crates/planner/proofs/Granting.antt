-- Refusals of a batch in their order, and the network at the end of one that is granted.
use Rattle.std.proofs.Common.{◌≡◌, ℕ, suc, ◌+◌, ◌*◌, ◌≤◌, Bool, true, false, cond, eqb, List, [], ◌∷◌, length, is_some, Some, None, Ok, Err, Option, sym, refl, ap, ◌∙◌, ap₂, inl, inr, arith}
use Rattle.std.proofs.lemmas.Bool.{cases_Bool, cond-true, cond-false, both_ways}
use Rattle.std.proofs.lemmas.Bool.Decides.{nat_tests}
use Rattle.faults.specs.declared.OpenFault.{OpenFault}
use Rattle.faults.specs.declared.OpenFault.TheVariants.{NotJoined}
use Rattle.faults.specs.declared.DrawFault.TheVariants.{Parted}
use Rattle.weights.specs.declared.order.Side.{Side}
use Rattle.network.specs.declared.types.Ends.{Ends}
use Rattle.network.specs.declared.types.LinkState.{LinkState}
use Rattle.network.specs.declared.types.Change.{Change}
use Rattle.network.specs.Ends.{or_else}
use Rattle.graphs.specs.Spanning.{all_joined}
use Rattle.plans.specs.Network.{graph_of, present_links, least_tree, changed, changed_by, parted_from, parted_at}
use Rattle.drawing.specs.Tables.{fronted, tables_fault, joined}
use Rattle.planner.specs.Open.{network_fault}
use Rattle.places.specs.Changes.{changes_fault}
use Rattle.drawing.specs.Answer.{parted_fault, unless}
use Rattle.places.proofs.Refusals.{or_else-none}
use Rattle.drawing.proofs.Fits.{Fit, fits}

-- An answer tells whether there was a refusal.
pub unless-ok : {X E : Type 0} (o : Option E) (x y : X) → Ok y ≡ unless o x → (o ≡ None) × (y ≡ x)
unless-ok None x y e = (refl, cc)
unless-ok (Some f) x y e = absurd (let z : ◌≡◌ {A = ℕ} 0 1 = cc in omega arith)

pub unless-err : {X E : Type 0} (o : Option E) (x : X) (f : E) → Err f ≡ unless o x → o ≡ Some f
unless-err None x f e = absurd (let z : ◌≡◌ {A = ℕ} 0 1 = cc in omega arith)
unless-err (Some g) x f e = cc

pub none-some : {X : Type 0} (o : Option X) → is_some o ≡ false → o ≡ None
none-some None e = refl
none-some (Some x) e = absurd (both_ways true e refl)

pub parted-none : (p : ℕ) → parted_fault p ≡ None → p ≡ 0
parted-none p e = elim (cases_Bool (eqb p 0)) [
  | inl t ↦ grind (arith, nat_tests)
  | inr f ↦ absurd (let q = sym (cond-false (eqb p 0) None (Some (Parted p)) f) ∙ e in let z : ◌≡◌ {A = ℕ} 0 1 = cc in omega arith)
]

-- A sound network: its tables fit, and its present links join all nodes.
pub network-sound : {W : Type 0} (n : ℕ) (ends : List Ends) (links : List (LinkState W)) (t : ℕ) → is_some (network_fault n ends links t) ≡ false
    → (tables_fault n ends (length links) t (64 * (n + length ends)) ≡ None) × (joined n ends links ≡ true)
network-sound n ends links t e =
    let a = or_else-none (tables_fault n ends (length links) t (64 * (n + length ends))) (cond (joined n ends links) None (Some NotJoined)) (none-some _ e) in
    (a.0, kept (joined n ends links) a.1)
  where
    kept : (b : Bool) → cond b None (Some NotJoined) ≡ None → b ≡ true
    kept true e = refl
    kept false e = absurd (let z : ◌≡◌ {A = ℕ} 0 1 = cc in omega arith)

pub network-fit : {W : Type 0} (n : ℕ) (ends : List Ends) (links : List (LinkState W)) (t : ℕ) → is_some (network_fault n ends links t) ≡ false
    → Fit n ends (length links) t (64 * (n + length ends))
network-fit n ends links t e = fits n ends (length links) t (64 * (n + length ends)) (network-sound n ends links t e).0

pub sound-network : {W : Type 0} (n : ℕ) (ends : List Ends) (links : List (LinkState W)) (t : ℕ)
    → tables_fault n ends (length links) t (64 * (n + length ends)) ≡ None → joined n ends links ≡ true → is_some (network_fault n ends links t) ≡ false
sound-network n ends links t a j =
    ap is_some (ap₂ (λ (o : Option OpenFault) (b : Bool). or_else o (cond b None (Some NotJoined))) a j)

-- A batch that parts the network nowhere leaves it joined.
pub joined-after : {W : Type 0} (k n : ℕ) (ends : List Ends) (links : List (LinkState W)) (batch : List (Change W)) → 1 ≤ k → joined n ends links ≡ true
    → parted_from k n ends links batch ≡ 0 → joined n ends (changed_by links batch) ≡ true
unfolding parted_from changed_by
joined-after k n ends links [] h j p = j
joined-after k n ends links (c ∷ cs) h j p =
    elim (cases_Bool (all_joined n (present_links (changed links c) (graph_of ends)))) [
      | inl t ↦ joined-after (suc k) n ends (changed links c) cs (omega arith) t
          (sym (cond-true (all_joined n (present_links (changed links c) (graph_of ends))) (parted_from (suc k) n ends (changed links c) cs) k t) ∙ p)
      | inr f ↦ absurd (omega (arith, sym (cond-false (all_joined n (present_links (changed links c) (graph_of ends))) (parted_from (suc k) n ends (changed links c) cs) k f) ∙ p))
    ]

-- A tree table that was filled, since the links join all nodes.
pub tree-filled : {W : Type 0} (side : W → W → Side) (n : ℕ) (ends : List Ends) (links now : List (LinkState W)) (r : Bool) (tree out : List ℕ)
    → now ≡ links → r ≡ joined n ends now → joined n ends links ≡ true → out ≡ cond r (fronted (least_tree side ends now) tree) tree
    → out ≡ fronted (least_tree side ends links) tree
tree-filled {W} side n ends links now r tree out e j h o =
    o ∙ cond-true r _ _ (j ∙ ap (λ (l : List (LinkState W)). joined n ends l) e ∙ h) ∙ ap (λ (l : List (LinkState W)). fronted (least_tree side ends l) tree) e

-- A granted plan is a granted batch: its changes are known, and the network stays joined.
pub record Grants {W : Type 0} (n : ℕ) (ends : List Ends) (links : List (LinkState W)) (batch : List (Change W)) : Type 0 where
  pub changes : None ≡ changes_fault 1 links batch
  pub whole : parted_at n ends links batch ≡ 0
  pub after : joined n ends (changed_by links batch) ≡ true

pub granted-batch : {W : Type 0} (n : ℕ) (ends : List Ends) (links : List (LinkState W)) (batch : List (Change W)) (v count : ℕ) → joined n ends links ≡ true
    → Ok count ≡ unless (or_else (changes_fault 1 links batch) (parted_fault (parted_at n ends links batch))) v
    → Grants n ends links batch × (count ≡ v)
granted-batch n ends links batch v count j h =
    let u = unless-ok _ v count h in
    let o = or_else-none (changes_fault 1 links batch) (parted_fault (parted_at n ends links batch)) u.0 in
    (record { changes = sym o.0; whole = parted-none _ o.1; after = joined-after 1 n ends links batch (omega arith) j (parted-none _ o.1) }, u.1)
