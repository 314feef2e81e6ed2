-- A plan worked out by places is the plan by weights and states.
use Rattle.std.proofs.Common.{◌≡◌, ℕ, ◌+◌, ◌-◌, ◌<◌, ◌≤◌, true, false, cond, ltb, List, [], ◌∷◌, ◌++◌, map, length, get_or, take, IfOk, None, Ok, Err, Option, Result, sym, refl, ap, ◌∙◌, subst, ap₂, inl, inr, arith}
use Rattle.std.proofs.lemmas.List.{get_or_append_left, get_or-append_right, get_or-take, length-take-le}
use Rattle.std.proofs.lemmas.Bool.{cases_lt, not-true}
use Rattle.faults.specs.declared.DrawFault.{DrawFault}
use Rattle.weights.specs.declared.order.Side.{Side}
use Rattle.weights.specs.declared.standing.Standing.TheVariants.{Absent}
use Rattle.weights.specs.Order.{compared, stand}
use Rattle.network.specs.declared.types.Ends.{Ends}
use Rattle.network.specs.declared.types.LinkState.{LinkState}
use Rattle.network.specs.declared.types.Change.{Change}
use Rattle.network.specs.Ends.{first_end_fault, or_else}
use Rattle.graphs.specs.Spanning.{AllJoined}
use Rattle.graphs.proofs.Joined.{joins-joined, joined-joins, joined-mono}
use Rattle.graphs.proofs.Lists.{filtered-sub}
use Rattle.graphs.proofs.Trees.{all-joined}
use Rattle.block_records.specs.declared.Move.{Move}
use Rattle.plans.specs.Network.{Sided, graph_of, present_links, standings, link_of, changed, moves_of, plan, work_count, parted_at}
use Rattle.plans.specs.Plan.{entries}
use Rattle.plans.specs.Same.{pool, movers, Faithful, AbsentAt}
use Rattle.plans.specs.Tears.{torn_at, first_tear}
use Rattle.plans.specs.Theorems.{SamePlan, Absentees}
use Rattle.plans.specs.Work.{work}
use Rattle.plans.proofs.Faithful.{same-order}
use Rattle.plans.proofs.Present.{absentees}
use Rattle.block_records.specs.Words.{entries_in}
use Rattle.plans.proofs.Standings.{faultless-within}
use Rattle.places.specs.Changes.{changes_fault}
use Rattle.drawing.specs.Answer.{parted_fault, unless}
use Rattle.drawing.specs.Tables.{joined}
use Rattle.places.specs.Moves.{place_moves}
use Rattle.places.specs.Pool.{sourced}
use Rattle.places.proofs.Pooled.{pool-faithful, pool-absent-at}

moves-to : {W : Type 0} (batch : List (Change W)) (ps : List ℕ) → length ps ≡ length batch → map (λ (c : Move ℕ). c.to) (place_moves batch ps) ≡ ps
unfolding place_moves
moves-to [] [] n = refl
moves-to [] (p ∷ ps) n = absurd (omega arith)
moves-to (c ∷ cs) [] n = absurd (omega arith)
moves-to (c ∷ cs) (p ∷ ps) n = ap (λ (l : List ℕ). p ∷ l) (moves-to cs ps (omega arith))

same-movers : {W : Type 0} (links : List (LinkState W)) (batch : List (Change W)) (ps : List ℕ) → length ps ≡ length batch
    → movers (place_moves batch ps) ≡ movers (moves_of links batch)
unfolding place_moves moves_of
same-movers links [] ps n = refl
same-movers links (c ∷ cs) [] n = absurd (omega arith)
same-movers links (c ∷ cs) (p ∷ ps) n = ap (λ (l : List ℕ). link_of c ∷ l) (same-movers (changed links c) cs ps (omega arith))

-- An answer and a table of entries that are those of the definitions.
pub record Planned {W : Type 0} (side : W → W → Side) (n : ℕ) (ends : List Ends) (links : List (LinkState W)) (batch : List (Change W))
    (r : Result ℕ DrawFault) (out : List (List ℕ)) : Type 0 where
  pub answer : r ≡ unless (or_else (changes_fault 1 links batch) (parted_fault (parted_at n ends links batch))) (work_count side n ends links batch)
  pub entries : IfOk r (λ _. entries_in out ≡ plan side ends links batch)

module _ {W : Type 0} (side : W → W → Side) (laws : Sided side) (n : ℕ) (ends : List Ends) (links : List (LinkState W)) (batch : List (Change W))
    (sources places own targets : List ℕ)
    (some : 1 ≤ n) (sound : first_end_fault n 1 ends ≡ None) (many : length ends ≡ length links) (whole : joined n ends links ≡ true)
    (traced : sourced links batch sources ≡ pool (standings links) (moves_of links batch) ++ Absent ∷ [])
    (given : (i j : ℕ) → i < length sources → j < length sources → compared (get_or places i 0) (get_or places j 0)
    ≡ stand side (get_or (sourced links batch sources) i Absent) (get_or (sourced links batch sources) j Absent))
    (split : places ≡ own ++ targets) (front : length own ≡ length links) (back : length targets ≡ length batch + 1) where
  abbrev ps : List ℕ
  ps = take (length batch) targets

  abbrev moves : List (Move ℕ)
  moves = place_moves batch ps

  pub targets-length : length ps ≡ length batch
  targets-length = length-take-le (length batch) targets (omega arith)

  pool-read : (i : ℕ) → i < length links + length batch → get_or (pool own moves) i 0 ≡ get_or places i 0
  pool-read i l =
      let e = ap (λ (t : List ℕ). get_or (own ++ t) i 0) (moves-to batch ps targets-length) in
      let p = ap (λ (t : List ℕ). get_or t i 0) split in
      elim (cases_lt i (length own)) [
        | inl h ↦ e ∙ get_or_append_left own ps 0 i h ∙ sym (get_or_append_left own targets 0 i h) ∙ sym p
        | inr h ↦
            e ∙ get_or-append_right own ps (length own) i 0 refl h ∙ get_or-take (length batch) targets (i - length own) 0 (omega arith)
            ∙ sym (get_or-append_right own targets (length own) i 0 refl h) ∙ sym p
      ]

  last-read : get_or targets (length batch) 0 ≡ get_or places (length links + length batch) 0
  last-read =
      let z : length links + length batch - length links ≡ length batch = omega arith in
      ap (λ (k : ℕ). get_or targets k 0) (sym z) ∙ sym (get_or-append_right own targets (length links) (length links + length batch) 0 front (omega arith))
      ∙ ap (λ (t : List ℕ). get_or t (length links + length batch) 0) (sym split)

  faithful : Faithful side links batch own moves
  faithful = pool-faithful side links batch sources places traced given own moves front (same-movers links batch ps targets-length) pool-read

  absent-at : AbsentAt (get_or targets (length batch) 0) links batch own moves
  absent-at =
      subst (λ (a : ℕ). AbsentAt a links batch own moves) (sym last-read)
      (pool-absent-at side links batch sources places traced given own moves front (same-movers links batch ps targets-length) pool-read)

  same : SamePlan side n ends links batch own moves
  same = same-order side n ends links batch own moves many faithful

  all_known : AllJoined n (graph_of ends)
  all_known x y p q u v =
      joined-joins (joined-mono (filtered-sub _ (graph_of ends)) (joins-joined ((all-joined n (present_links links (graph_of ends)) some).0 whole x y p q u v)))

  absences : Absentees side n ends links
  absences = absentees side laws ends n some (faultless-within n 1 ends sound) all_known links

  pub not-torn : torn_at (get_or targets (length batch) 0) own (graph_of ends) ≡ false
  not-torn = same.start _ absent-at ∙ not-true _ (sym absences.torn ∙ whole)

  pub same_entries : entries own (graph_of ends) moves ≡ plan side ends links batch
  same_entries = same.plan

  pub same-work : work own (record { nodes = n; links = graph_of ends }) moves ≡ work_count side n ends links batch
  same-work = same.work

  pub same-parted : let T = first_tear (get_or targets (length batch) 0) own (graph_of ends) moves in
      cond (ltb T (length batch)) (1 + T) 0 ≡ parted_at n ends links batch
  same-parted = ap (λ (t : ℕ). cond (ltb t (length batch)) (1 + t) 0) (same.tear _ absent-at) ∙ sym (absences.parted batch)

  -- What the recursion told is what the definitions say.
  pub told-plan : (r : Result ℕ DrawFault) (out : List (List ℕ)) → None ≡ changes_fault 1 links batch
      → (let T = first_tear (get_or targets (length batch) 0) own (graph_of ends) moves in
      r ≡ unless (parted_fault (cond (ltb T (length batch)) (1 + T) 0)) (work own (record { nodes = n; links = graph_of ends }) moves))
      → entries_in out ≡ entries own (graph_of ends) moves → Planned side n ends links batch r out
  told-plan r out ok a e = record {
    answer = a ∙ ap₂ (λ (p w : ℕ). unless (parted_fault p) w) same-parted same-work
        ∙ ap (λ (f : Option DrawFault). unless (or_else f (parted_fault (parted_at n ends links batch))) (work_count side n ends links batch)) ok;
    entries = always r (e ∙ same_entries);
  }
    where
      always : (r : Result ℕ DrawFault) → entries_in out ≡ plan side ends links batch → IfOk r (λ _. entries_in out ≡ plan side ends links batch)
      always (Ok w) h = h
      always (Err f) h = tt
