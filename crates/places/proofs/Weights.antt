-- Where weights stand, and what is told there.
use Rattle.std.proofs.Common.{◌≡◌, ℕ, ◌+◌, ◌-◌, ◌<◌, ◌≤◌, Bool, true, false, cond, List, map, length, get_or, ◌∙◌, ap₂, arith}
use Rattle.std.proofs.lemmas.List.{length-map, length-append, get_or-map, get_or_append_left, get_or-append_right, get_or_past}
use Rattle.weights.specs.declared.standing.Standing.{Standing}
use Rattle.weights.specs.declared.standing.Standing.TheVariants.{At, Absent}
use Rattle.network.specs.declared.types.LinkState.{LinkState}
use Rattle.network.specs.declared.types.Change.{Change}
use Rattle.plans.specs.Network.{standing_if}
use Rattle.places.specs.Pool.{set_to, weight_of, weights_of, told_by, sourced, nowhere, source_of}

module _ {W : Type 0} (links : List (LinkState W)) (batch : List (Change W)) where
  pub weights-length : length (weights_of links batch) ≡ length links + length batch
  unfolding weights_of
  weights-length =
      let f : LinkState W → Standing W = λ l. weight_of l in
      let h : Change W → Standing W = λ c. set_to c in
      length-append (map f links) (map h batch) ∙ ap₂ (λ (a b : ℕ). a + b) (length-map links f) (length-map batch h)

  pub weights-front : (q : ℕ) → q < length links → told_by (weights_of links batch) q ≡ get_or (map (λ (l : LinkState W). weight_of l) links) q Absent
  unfolding weights_of
  weights-front q l =
      let f : LinkState W → Standing W = λ l. weight_of l in
      let n = length-map links f in
      get_or_append_left (map f links) (map (λ (c : Change W). set_to c) batch) Absent q (omega arith)

  pub weights-link : (q : ℕ) (d : LinkState W) → q < length links → told_by (weights_of links batch) q ≡ weight_of (get_or links q d)
  weights-link q d l = weights-front q l ∙ get_or-map (λ (l : LinkState W). weight_of l) links q d Absent l

  pub weights-change : (q : ℕ) (d : Change W) → length links ≤ q → q - length links < length batch
      → told_by (weights_of links batch) q ≡ set_to (get_or batch (q - length links) d)
  unfolding weights_of
  weights-change q d l m =
      let f : LinkState W → Standing W = λ l. weight_of l in
      let h : Change W → Standing W = λ c. set_to c in
      get_or-append_right (map f links) (map h batch) (length links) q Absent (length-map links f) l ∙ get_or-map h batch (q - length links) d Absent m

  pub weights-past : (q : ℕ) → length links + length batch ≤ q → told_by (weights_of links batch) q ≡ Absent
  weights-past q l = get_or_past (weights_of links batch) q Absent (omega (arith, weights-length))

  -- What a table of sources tells at an index.
  pub sourced-at : (sources : List ℕ) (i : ℕ) → i < length sources
      → get_or (sourced links batch sources) i Absent ≡ told_by (weights_of links batch) (get_or sources i 0)
  sourced-at sources i l = get_or-map (told_by (weights_of links batch)) sources i 0 Absent l

-- A link's weight and its state tell its standing.
pub source-standing : {W : Type 0} (weights : List (Standing W)) (w : W) (b : Bool) (q p : ℕ) → length weights ≤ nowhere
    → p ≡ cond b 1 0 → told_by weights q ≡ At w → told_by weights (source_of q p) ≡ standing_if b w
source-standing weights w true q p n e h = rw e h
source-standing weights w false q p n e h = rw e (get_or_past weights nowhere Absent n)
