-- Tables that follow the links through a batch: where each link's weight stands, and its state.
use Rattle.std.proofs.Common.{◌≡◌, ℕ, zero, suc, ◌-◌, ◌<◌, ◌≤◌, Bool, true, false, cond, not, eqb, List, [], ◌∷◌, map, length, get_or, set, sym, refl, ap, ◌∙◌, ap₂, arith}
use Rattle.std.proofs.lemmas.List.{length-map, length-set, get_or-map, map-set, set-get_or, ext_get_or}
use Rattle.weights.specs.declared.standing.Standing.{Standing}
use Rattle.weights.specs.declared.standing.Standing.TheVariants.{At, Absent}
use Rattle.network.specs.declared.types.LinkState.{LinkState}
use Rattle.network.specs.declared.types.Change.{Change}
use Rattle.network.specs.declared.types.Change.TheVariants.{Set, Remove, Flip}
use Rattle.plans.specs.Network.{standing_of, standings, standing_at, link_of, changed_link, altered, altered_link, changed}
use Rattle.places.specs.Pool.{set_to, weight_of, weights_of, told_by, told, nowhere, source_of, state_of, states, held_by, state_by, states_by, source_by}
use Rattle.places.proofs.Judging.{states-length, value_read}
use Rattle.places.proofs.Weights.{weights-front, source-standing}

-- The tables tell the weights and states of these links.
pub record Tracks {W : Type 0} (weights : List (Standing W)) (links : List (LinkState W)) (held present : List ℕ) : Type 0 where
  pub weight : told weights held ≡ map (λ (l : LinkState W). weight_of l) links
  pub state : present ≡ states links

-- Before the batch each link's weight is its own.
pub tracks-start : {W : Type 0} (links : List (LinkState W)) (batch : List (Change W)) (held present : List ℕ) → length held ≡ length links
    → ((x : ℕ) → x < length held → get_or held x 0 ≡ x) → present ≡ states links → Tracks (weights_of links batch) links held present
tracks-start {W} links batch held present n own s =
    let ws = weights_of links batch in
    let f : LinkState W → Standing W = λ l. weight_of l in
    let a = length-map held (told_by ws) in
    let b = length-map links f in
    record {
      weight = ext_get_or Absent (told ws held) (map f links) (a ∙ n ∙ sym b) (λ i l.
          get_or-map (told_by ws) held i 0 Absent (omega arith) ∙ ap (told_by ws) (own i (omega arith)) ∙ weights-front links batch i (omega arith));
      state = s;
    }

map-altered : {A B : Type 0} (f : A → B) (g : A → A) (h : B → B) (xs : List A) (k : ℕ) (e : B) → k < length xs → ((x : A) → f (g x) ≡ h (f x))
    → map f (altered g xs k) ≡ set (map f xs) k (h (get_or (map f xs) k e))
unfolding altered
map-altered f g h [] k e l s = absurd (omega arith)
map-altered {A} {B} f g h (x ∷ xs) zero e l s = ap (λ (y : B). y ∷ map f xs) (s x)
map-altered {A} {B} f g h (x ∷ xs) (suc k) e l s = ap (λ (t : List B). f x ∷ t) (map-altered f g h xs k e (omega arith) s)

map-altered-link : {W B : Type 0} (f : LinkState W → B) (g : LinkState W → LinkState W) (h : B → B) (links : List (LinkState W)) (k : ℕ) (e : B)
    → 1 ≤ k → k ≤ length links → ((x : LinkState W) → f (g x) ≡ h (f x))
    → map f (altered_link g links k) ≡ set (map f links) (k - 1) (h (get_or (map f links) (k - 1) e))
unfolding altered_link
map-altered-link f g h links zero e lo hi s = absurd (omega arith)
map-altered-link f g h links (suc k) e lo hi s = let q : suc k - 1 ≡ k = omega arith in rw q (map-altered f g h links k e (omega arith) s)

state-changed : {W : Type 0} (c : Change W) (l : LinkState W) → state_of (changed_link c l) ≡ state_by c (state_of l)
state-changed (Set k w) l = refl
state-changed (Remove k) l = refl
state-changed (Flip k) l = flip l.present
  where
    flip : (p : Bool) → ◌≡◌ {A = ℕ} (cond (not p) 1 0) (cond (eqb (cond p 1 0) 0) 1 0)
    flip true = refl
    flip false = refl

module _ {W : Type 0} (weights : List (Standing W)) (links : List (LinkState W)) (held present : List ℕ) (t : Tracks weights links held present) where
  pub held-length : length held ≡ length links
  held-length =
      sym (length-map held (told_by weights)) ∙ ap length t.weight ∙ length-map links (λ (l : LinkState W). weight_of l)

  pub present-length : length present ≡ length links
  present-length = ap length t.state ∙ states-length links

  module _ (room : length weights ≤ nowhere) where
    -- The standing of a link, as the tables tell it.
    pub tracked-source : (x : ℕ) (d : LinkState W) → x < length links → told_by weights (source_of (get_or held x 0) (get_or present x 0)) ≡ get_or (standings links) x Absent
    tracked-source x d l =
        let f : LinkState W → Standing W = λ l. weight_of l in
        let s : LinkState W → ℕ = λ l. state_of l in
        let u : LinkState W → Standing W = λ l. standing_of l in
        let a = get_or links x d in
        let n = held-length in
        let e1 : get_or present x 0 ≡ s a = ap (λ (p : List ℕ). get_or p x 0) t.state ∙ get_or-map s links x d 0 l in
        let e2 : told_by weights (get_or held x 0) ≡ f a =
        sym (get_or-map (told_by weights) held x 0 Absent (omega arith)) ∙ ap (λ (p : List (Standing W)). get_or p x Absent) t.weight
        ∙ get_or-map f links x d Absent l in
        source-standing weights a.weight a.present (get_or held x 0) (get_or present x 0) room e1 e2 ∙ sym (get_or-map u links x d Absent l)

-- The same, whatever a link's default.
pub tracked : {W : Type 0} (weights : List (Standing W)) (links : List (LinkState W)) (held present : List ℕ) → Tracks weights links held present
    → length weights ≤ nowhere → (x : ℕ) → x < length links
    → told_by weights (source_of (get_or held x 0) (get_or present x 0)) ≡ get_or (standings links) x Absent
tracked weights [] held present t room x l = absurd (omega arith)
tracked weights (d ∷ links) held present t room x l = tracked-source weights (d ∷ links) held present t room x d l

module _ {W : Type 0} (weights : List (Standing W)) (links : List (LinkState W)) (held present : List ℕ) (t : Tracks weights links held present) where
  held_more : (c : Change W) (q : ℕ) → 1 ≤ link_of c → link_of c ≤ length links → told_by weights q ≡ set_to c
      → told weights (held_by c q held) ≡ map (λ (l : LinkState W). weight_of l) (changed links c)
  held_more (Set k w) q lo hi e =
      let f : LinkState W → Standing W = λ l. weight_of l in
      map-set (told_by weights) held (k - 1) q ∙ ap₂ (λ (p : List (Standing W)) (v : Standing W). set p (k - 1) v) t.weight e
      ∙ sym (map-altered-link f (changed_link (Set k w)) (λ _. At w) links k Absent lo hi (λ l. refl))
  held_more (Remove k) q lo hi e =
      let f : LinkState W → Standing W = λ l. weight_of l in
      t.weight ∙ sym (map-altered-link f (changed_link (Remove k)) (λ v. v) links k Absent lo hi (λ l. refl) ∙ set-get_or (map f links) (k - 1) Absent)
  held_more (Flip k) q lo hi e =
      let f : LinkState W → Standing W = λ l. weight_of l in
      t.weight ∙ sym (map-altered-link f (changed_link (Flip k)) (λ v. v) links k Absent lo hi (λ l. refl) ∙ set-get_or (map f links) (k - 1) Absent)

  module _ (c : Change W) (q : ℕ) (lo : 1 ≤ link_of c) (hi : link_of c ≤ length links) (e : told_by weights q ≡ set_to c) where
    -- A change keeps to the tables.
    pub tracks-more : Tracks weights (changed links c) (held_by c q held) (states_by c present)
    tracks-more =
        let s : LinkState W → ℕ = λ l. state_of l in
        record {
          weight = held_more c q lo hi e;
          state = ap (states_by c) t.state ∙ sym (map-altered-link s (changed_link c) (state_by c) links (link_of c) 0 lo hi (state-changed c));
        }

    -- The source of its link after a change tells the standing then.
    pub source_more : length weights ≤ nowhere → told_by weights (source_by c q held present) ≡ standing_at (changed links c) (link_of c)
    source_more room =
        let n = present-length weights links held present t in
        let m = present-length weights (changed links c) (held_by c q held) (states_by c present) tracks-more in
        let z : length (states_by c present) ≡ length present = length-set present (link_of c - 1) (state_by c (get_or present (link_of c - 1) 0)) in
        tracked weights (changed links c) (held_by c q held) (states_by c present) tracks-more room (link_of c - 1) (omega arith)
        ∙ sym (value_read Absent (standings (changed links c)) (link_of c) lo)
