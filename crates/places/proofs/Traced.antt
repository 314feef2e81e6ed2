-- The trace of a batch: after i changes the tables follow the links, the sources so far tell the pool so far, and no change was refused.
use Rattle.std.proofs.Common.{◌≡◌, ℕ, ◌+◌, ◌-◌, ◌<◌, ◌≤◌, List, [], ◌∷◌, ◌++◌, map, length, get_or, take, drop, set, Some, None, Option, sym, refl, ap, ◌∙◌, ap₂, arith}
use Rattle.std.proofs.lemmas.List.{length-map, length-take-le, get_or-map, get_or-take, ext_get_or, length-set, take_more, take_more_set, take_all, drop_more, at_drop_all, map-append, append_assoc, append-nil}
use Rattle.faults.specs.declared.DrawFault.{DrawFault}
use Rattle.weights.specs.declared.standing.Standing.{Standing}
use Rattle.weights.specs.declared.standing.Standing.TheVariants.{Absent}
use Rattle.network.specs.declared.types.LinkState.{LinkState}
use Rattle.network.specs.declared.types.Change.{Change}
use Rattle.network.specs.Ends.{or_else}
use Rattle.block_records.specs.declared.Move.{Move}
use Rattle.plans.specs.Network.{standings, standing_at, link_of, changed, changed_by, links_at, moves_of}
use Rattle.plans.specs.Same.{pool}
use Rattle.plans.proofs.Standings.{standings-length}
use Rattle.places.specs.Changes.{change_fault, changes_fault}
use Rattle.places.specs.Pool.{set_to, weights_of, told_by, sourced, nowhere, source_of, held_by, states_by, source_by}
use Rattle.places.proofs.Judging.{judged-link}
use Rattle.places.proofs.Weights.{weights-length, weights-change, weights-past}
use Rattle.places.proofs.Tracing.{Tracks, tracked, tracks-more, source_more}

-- The standings that the changes of a batch lead to, in turn.
abbrev ends : {W : Type 0} → List (LinkState W) → List (Change W) → List (Standing W)
ends links batch = map (λ (c : Move (Standing _)). c.to) (moves_of links batch)

ends-none : {W : Type 0} (links : List (LinkState W)) → ends links [] ≡ []
unfolding moves_of
ends-none links = refl

ends_more : {W : Type 0} (links : List (LinkState W)) (c : Change W) (cs : List (Change W))
    → ends links (c ∷ cs) ≡ standing_at (changed links c) (link_of c) ∷ ends (changed links c) cs
unfolding moves_of
ends_more links c cs = refl

faults-none : {W : Type 0} (i : ℕ) (links : List (LinkState W)) → changes_fault i links [] ≡ None
unfolding changes_fault
faults-none i links = refl

faults-more : {W : Type 0} (i : ℕ) (links : List (LinkState W)) (c : Change W) (cs : List (Change W))
    → changes_fault i links (c ∷ cs) ≡ or_else (change_fault i links c) (changes_fault (i + 1) (changed links c) cs)
unfolding changes_fault
faults-more i links c cs = refl

changed-none : {W : Type 0} (links : List (LinkState W)) (batch : List (Change W)) → links_at links batch 0 ≡ links
unfolding changed_by
changed-none links batch = refl

changed-push : {W : Type 0} (links : List (LinkState W)) (cs : List (Change W)) (c : Change W) → changed_by links (cs ++ c ∷ []) ≡ changed (changed_by links cs) c
unfolding changed_by
changed-push links [] c = refl
changed-push links (d ∷ cs) c = changed-push (changed links d) cs c

pub record Traced {W : Type 0} (links : List (LinkState W)) (batch : List (Change W)) (i : ℕ) (sources held present : List ℕ) : Type 0 where
  pub tracks : Tracks (weights_of links batch) (links_at links batch i) held present
  pub pooled : sourced links batch (take (length links + i) sources) ++ ends (links_at links batch i) (drop i batch) ≡ pool (standings links) (moves_of links batch)
  pub faults : changes_fault (i + 1) (links_at links batch i) (drop i batch) ≡ changes_fault 1 links batch

module _ {W : Type 0} (links : List (LinkState W)) (batch : List (Change W)) (room : length links + length batch ≤ nowhere) where
  narrow : length (weights_of links batch) ≤ nowhere
  narrow = omega (arith, weights-length links batch)

  -- Before the batch.
  pub traced-none : (sources held present : List ℕ) → Tracks (weights_of links batch) links held present → length links ≤ length sources
      → ((x : ℕ) → x < length links → get_or sources x 0 ≡ source_of (get_or held x 0) (get_or present x 0)) → Traced links batch 0 sources held present
  traced-none sources held present t l own =
      let ws = weights_of links batch in
      let e = changed-none links batch in
      let z : length links + 0 ≡ length links = omega arith in
      let front = take (length links) sources in
      let n : length front ≡ length links = length-take-le (length links) sources l in
      let a = length-map front (told_by ws) in
      let b = standings-length links in
      let q : sourced links batch front ≡ standings links =
      ext_get_or Absent (sourced links batch front) (standings links) (a ∙ n ∙ sym b) (λ x m.
      get_or-map (told_by ws) front x 0 Absent (omega arith) ∙ ap (told_by ws) (get_or-take (length links) sources x 0 (omega arith) ∙ own x (omega arith))
      ∙ tracked ws links held present t narrow x (omega arith)) in
      record {
        tracks = rw e t;
        pooled = rw (e, z) (ap (λ (s : List (Standing W)). s ++ ends links batch) q);
        faults = rw e;
      }

  module _ (i : ℕ) (sources held present : List ℕ) (t : Traced links batch i sources held present) where
    -- Change i, counted from 0, as it is read.
    module _ (c : Change W) (l : i < length batch) (is : c ≡ get_or batch i c) where
      rest-is : drop i batch ≡ c ∷ drop (i + 1) batch
      rest-is = drop_more batch i c l ∙ ap (λ (x : Change W). x ∷ drop (i + 1) batch) (sym is)

      links-next : links_at links batch (i + 1) ≡ changed (links_at links batch i) c
      links-next =
          ap (changed_by links) (take_more batch i c l ∙ ap (λ (x : Change W). take i batch ++ x ∷ []) (sym is)) ∙ changed-push links (take i batch) c

      faults-next : changes_fault 1 links batch
          ≡ or_else (change_fault (i + 1) (links_at links batch i) c) (changes_fault (i + 1 + 1) (changed (links_at links batch i) c) (drop (i + 1) batch))
      faults-next =
          let L = links_at links batch i in
          sym t.faults ∙ ap (changes_fault (i + 1) L) rest-is ∙ faults-more (i + 1) L c (drop (i + 1) batch)

      -- It is refused.
      pub traced-refused : (f : DrawFault) → Some f ≡ change_fault (i + 1) (links_at links batch i) c → Some f ≡ changes_fault 1 links batch
      traced-refused f e =
          let rest = changes_fault (i + 1 + 1) (changed (links_at links batch i) c) (drop (i + 1) batch) in
          ap (λ (o : Option DrawFault). or_else o rest) e ∙ sym faults-next

      -- It is made.
      module _ (granted : None ≡ change_fault (i + 1) (links_at links batch i) c) where
        pub traced-link : (1 ≤ link_of c) × (link_of c ≤ length (links_at links batch i))
        traced-link = judged-link (i + 1) (links_at links batch i) c granted

        told-own : told_by (weights_of links batch) (length links + i) ≡ set_to c
        told-own =
            let e : length links + i - length links ≡ i = omega arith in
            let w = weights-change links batch (length links + i) c (omega arith) (omega arith) in
            (rw e at w) ∙ ap (λ (x : Change W). set_to x) (sym is)

        pub traced-more : length links + i < length sources
            → Traced links batch (i + 1) (set sources (length links + i) (source_by c (length links + i) held present)) (held_by c (length links + i) held) (states_by c present)
        traced-more s =
            let ws = weights_of links batch in
            let L = links_at links batch i in
            let own = length links + i in
            let k = traced-link in
            let e = links-next in
            let src = source_by c own held present in
            let u : length links + (i + 1) ≡ own + 1 = omega arith in
            let to = source_more ws L held present t.tracks c own k.0 k.1 told-own narrow in
            let rest = ends (changed L c) (drop (i + 1) batch) in
            let front = take own sources in
            let p : sourced links batch (take (own + 1) (set sources own src)) ++ rest ≡ pool (standings links) (moves_of links batch) =
            ap (λ (x : List ℕ). sourced links batch x ++ rest) (take_more_set sources own src s)
            ∙ ap (λ (x : List (Standing W)). x ++ rest) (map-append (told_by ws) front (src ∷ []))
            ∙ append_assoc (sourced links batch front) (told_by ws src ∷ []) rest
            ∙ ap (λ (v : Standing W). sourced links batch front ++ (v ∷ rest)) to
            ∙ ap (λ (x : List (Standing W)). sourced links batch front ++ x) (sym (ap (ends L) rest-is ∙ ends_more L c (drop (i + 1) batch)))
            ∙ t.pooled in
            record {
              tracks = rw e (tracks-more ws L held present t.tracks c own k.0 k.1 told-own);
              pooled = rw (e, u) p;
              faults = rw e (ap (λ (o : Option DrawFault). or_else o (changes_fault (i + 1 + 1) (changed L c) (drop (i + 1) batch))) granted ∙ sym faults-next);
            }

        -- The same of tables that equal those.
        pub traced-made : (v : ℕ) (held' present' : List ℕ) → length links + i < length sources → v ≡ source_by c (length links + i) held present
            → held' ≡ held_by c (length links + i) held → present' ≡ states_by c present
            → Traced links batch (i + 1) (set sources (length links + i) v) held' present'
        traced-made v held' present' s ev eh ep = rw (ev, eh, ep) (traced-more s)

    -- After the batch.
    module _ (l : length batch ≤ i) where
      pub traced-granted : None ≡ changes_fault 1 links batch
      traced-granted =
          let L = links_at links batch i in
          sym (at_drop_all (changes_fault (i + 1) L) batch i l ∙ faults-none (i + 1) L) ∙ t.faults

      pub traced-all : i ≤ length batch → length sources ≡ length links + length batch + 1
          → sourced links batch (set sources (length links + length batch) nowhere) ≡ pool (standings links) (moves_of links batch) ++ Absent ∷ []
      traced-all h n =
          let ws = weights_of links batch in
          let L = links_at links batch i in
          let end = length links + length batch in
          let s : end < length sources = omega arith in
          let e : length links + i ≡ end = omega arith in
          let front = take end sources in
          let whole : set sources end nowhere ≡ front ++ nowhere ∷ [] =
          sym (take_all (end + 1) (set sources end nowhere) (simp length-set (omega arith))) ∙ take_more_set sources end nowhere s in
          let p : sourced links batch front ≡ pool (standings links) (moves_of links batch) =
          sym (ap (λ (x : List (Standing W)). sourced links batch front ++ x) (at_drop_all (ends L) batch i l ∙ ends-none L) ∙ append-nil (sourced links batch front))
          ∙ (rw e at t.pooled) in
          ap (sourced links batch) whole ∙ map-append (told_by ws) front (nowhere ∷ [])
          ∙ ap₂ (λ (x : List (Standing W)) (v : Standing W). x ++ v ∷ []) p (weights-past links batch nowhere room)
