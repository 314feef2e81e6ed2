-- The standings of a pool rank, and the places that are given to them are faithful to them.
use Rattle.std.proofs.Common.{◌≡◌, ℕ, ◌+◌, ◌<◌, ltb, leb, List, [], ◌∷◌, ◌++◌, map, length, get_or, refl, ap, ◌∙◌, ap₂, arith}
use Rattle.std.proofs.lemmas.List.{length-map, length-append, length_push, get_or_append_left, get_or_push}
use Rattle.std.proofs.lemmas.Bool.Decides.{nat_tests}
use Rattle.weights.specs.declared.order.Side.{Side}
use Rattle.weights.specs.declared.order.Side.TheVariants.{Before, Level, After}
use Rattle.weights.specs.declared.standing.Standing.{Standing}
use Rattle.weights.specs.declared.standing.Standing.TheVariants.{At, Absent}
use Rattle.weights.specs.Order.{compared, stand}
use Rattle.network.specs.declared.types.LinkState.{LinkState}
use Rattle.network.specs.declared.types.Change.{Change}
use Rattle.block_records.specs.declared.Move.{Move}
use Rattle.plans.specs.Network.{Sided, is_before, is_absent, standings, moves_of}
use Rattle.plans.specs.Same.{pool, movers, Faithful, AbsentAt}
use Rattle.plans.proofs.Standings.{sided-stand, standings-length, moves-length}
use Rattle.places.specs.Pool.{stands_before, told_by, weights_of, sourced}

module _ {W : Type 0} (side : W → W → Side) (laws : Sided side) where
  told-side : (u v : Standing W) (s t : Side) (p q : ℕ) → stand side u v ≡ s → stand side v u ≡ t → ltb p q ≡ is_before s → ltb q p ≡ is_before t → compared p q ≡ s
  told-side u v Before t p q es et h k = grind (arith, nat_tests)
  told-side u v Level Before p q es et h k = absurd (let e = (sided-stand side laws).mirrored v u et in let z : ◌≡◌ {A = ℕ} 0 1 = cc in omega arith)
  told-side u v Level Level p q es et h k = grind (arith, nat_tests)
  told-side u v Level After p q es et h k = grind (arith, nat_tests)
  told-side u v After Before p q es et h k = grind (arith, nat_tests)
  told-side u v After Level p q es et h k = absurd (let e = (sided-stand side laws).back v u es in let z : ◌≡◌ {A = ℕ} 0 1 = cc in omega arith)
  told-side u v After After p q es et h k = absurd (let e = (sided-stand side laws).back v u es in let z : ◌≡◌ {A = ℕ} 0 1 = cc in omega arith)

  module _ (ss : List (Standing W)) (places : List ℕ)
      (given : (i j : ℕ) → i < length ss → j < length ss → ltb (get_or places i 0) (get_or places j 0) ≡ stands_before side ss i j) where
    -- Places that say which of two standings is before the other say where each stands to the other.
    pub places-compared : (i j : ℕ) → i < length ss → j < length ss
        → compared (get_or places i 0) (get_or places j 0) ≡ stand side (get_or ss i Absent) (get_or ss j Absent)
    places-compared i j li lj =
        let u = get_or ss i Absent in
        let v = get_or ss j Absent in
        told-side u v (stand side u v) (stand side v u) (get_or places i 0) (get_or places j 0) refl refl (given i j li lj) (given j i lj li)

-- A pool has a standing for each link and one for each change.
pub pool-size : {W : Type 0} (links : List (LinkState W)) (batch : List (Change W))
    → length (pool (standings links) (moves_of links batch)) ≡ length links + length batch
pool-size {W} links batch =
    let f : Move (Standing W) → Standing W = λ c. c.to in
    length-append (standings links) (map f (moves_of links batch))
    ∙ ap₂ (λ (a b : ℕ). a + b) (standings-length links) (length-map (moves_of links batch) f ∙ moves-length links batch)

-- Places of a traced pool, as they are given.
module _ {W : Type 0} (side : W → W → Side) (links : List (LinkState W)) (batch : List (Change W)) (sources places : List ℕ)
    (traced : sourced links batch sources ≡ pool (standings links) (moves_of links batch) ++ Absent ∷ [])
    (given : (i j : ℕ) → i < length sources → j < length sources → compared (get_or places i 0) (get_or places j 0)
    ≡ stand side (get_or (sourced links batch sources) i Absent) (get_or (sourced links batch sources) j Absent)) where
  pub sources-size : length sources ≡ length links + length batch + 1
  sources-size =
      let P = pool (standings links) (moves_of links batch) in
      let a = length-map sources (told_by (weights_of links batch)) in
      let b = length_push P Absent in
      let c = pool-size links batch in
      omega (arith, ap length traced)

  sources-at : (i : ℕ) → i < length links + length batch
      → get_or (sourced links batch sources) i Absent ≡ get_or (pool (standings links) (moves_of links batch)) i Absent
  sources-at i l =
      let P = pool (standings links) (moves_of links batch) in
      ap (λ (s : List (Standing W)). get_or s i Absent) traced ∙ get_or_append_left P (Absent ∷ []) Absent i (omega (arith, pool-size links batch))

  -- The last one is absent.
  pub sources-last : get_or (sourced links batch sources) (length links + length batch) Absent ≡ Absent
  sources-last =
      let P = pool (standings links) (moves_of links batch) in
      ap (λ (s : List (Standing W)). get_or s (length links + length batch) Absent) traced ∙ get_or_push P Absent Absent (length links + length batch) (pool-size links batch)

  -- Any two places are to each other as the two standings are.
  pub pool-compared : (i j : ℕ) → i < length links + length batch → j < length links + length batch
      → compared (get_or places i 0) (get_or places j 0)
      ≡ stand side (get_or (pool (standings links) (moves_of links batch)) i Absent) (get_or (pool (standings links) (moves_of links batch)) j Absent)
  pool-compared i j li lj =
      let n = sources-size in
      given i j (omega arith) (omega arith) ∙ ap₂ (stand side) (sources-at i li) (sources-at j lj)

  -- Those at the last place or later are the absent ones.
  pub pool-absent : (i : ℕ) → i < length links + length batch
      → leb (get_or places (length links + length batch) 0) (get_or places i 0) ≡ is_absent (get_or (pool (standings links) (moves_of links batch)) i Absent)
  pool-absent i l =
      let n = sources-size in
      at_last (get_or (pool (standings links) (moves_of links batch)) i Absent) (get_or places i 0) (get_or places (length links + length batch) 0)
      (given i (length links + length batch) (omega arith) (omega arith) ∙ ap₂ (stand side) (sources-at i l) sources-last)
    where
      at_last : (u : Standing W) (p q : ℕ) → compared p q ≡ stand side u Absent → leb q p ≡ is_absent u
      at_last (At w) p q h = grind (arith, nat_tests)
      at_last Absent p q h = grind (arith, nat_tests)

  -- A place table and place moves that are read off these places.
  module _ (front : List ℕ) (moves : List (Move ℕ)) (many : length front ≡ length links) (names : movers moves ≡ movers (moves_of links batch))
      (reads : (i : ℕ) → i < length links + length batch → get_or (pool front moves) i 0 ≡ get_or places i 0) where
    pub read-size : length (pool front moves) ≡ length links + length batch
    read-size =
        let f : Move ℕ → ℕ = λ c. c.to in
        let g : Move ℕ → ℕ = λ c. c.link in
        let h : Move (Standing W) → ℕ = λ c. c.link in
        let a = length-append front (map f moves) in
        let b = length-map moves f in
        let c = length-map moves g in
        let d = length-map (moves_of links batch) h in
        let e = moves-length links batch in
        omega (arith, ap length names)

    pub pool-faithful : Faithful side links batch front moves
    pool-faithful =
        let n = read-size in
        record {
          many = many;
          names = names;
          same = λ i j li lj. ap₂ compared (reads i (omega arith)) (reads j (omega arith)) ∙ pool-compared i j (omega arith) (omega arith);
        }

    pub pool-absent-at : AbsentAt (get_or places (length links + length batch) 0) links batch front moves
    pool-absent-at = λ i l.
        let n = read-size in
        ap (leb (get_or places (length links + length batch) 0)) (reads i (omega arith)) ∙ pool-absent i (omega arith)
