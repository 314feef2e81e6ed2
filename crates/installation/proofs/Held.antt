-- Each call, as code makes it, is a step of the installation that it holds, or is not made.
use Rattle.std.proofs.Common.{◌≡◌, ℕ, zero, suc, ◌+◌, ◌-◌, ◌*◌, ◌/◌, ◌<◌, Bool, true, false, cond, not, ◌&&◌, ◌||◌, eqb, ltb, leb, List, [], ◌∷◌, ◌++◌, map, length, get_or, take, drop, set, replicate, is_some, Some, None, Ok, Err, Option, sym, refl, ap, ◌∙◌, subst, ap₂, inl, inr, arith}
use borrow.Rule.Slice.PartMut.{put_mid}
use Rattle.std.proofs.lemmas.List.{length-set, length-map, length-replicate, take-append-drop, drop_more, get_or_past, get_or-set_same, get_or-set_other, map-set}
use Rattle.std.proofs.lemmas.Bool.{both_ways, and_parts, cases_eq, cases_lt, cases_Bool, ltb-true, eqb-false}
use Rattle.std.specs.Option.{option_map}
use Rattle.faults.specs.declared.OpenFault.{OpenFault}
use Rattle.faults.specs.declared.DrawFault.{DrawFault}
use Rattle.weights.specs.declared.order.Side.{Side}
use Rattle.network.specs.declared.types.Change.{Change}
use Rattle.plans.specs.Network.{Sided, least_tree, changed_by, plan}
use Rattle.planner.specs.Open.{fronted, open_fault, network_fault}
use Rattle.planner.specs.Draw.{draw_fault, counts, unless}
use Rattle.planner.specs.declared.drawn.Drawn.{Drawn}
use Rattle.player.specs.Plan.{Sheet}
use Rattle.promise.specs.declared.answer.Answer.{Answer}
use Rattle.promise.specs.declared.answer.Answer.TheVariants.{NotMade, Drew, NotDrawn}
use Rattle.promise.specs.Installation.{Network, after, DrawnPlan, drawn_from, Player, nobody, Installation, new}
use Rattle.promise.specs.Calls.{Request, One, this, older, drew, Step, open-granted, open-refused, draw-granted, draw-refused, Runs, none, then}
use Rattle.promise.proofs.Accepted.{Accepted, open-accepts, all-accepted}
use Rattle.promise.proofs.Trees.{tree-length}
use Rattle.installation.specs.declared.call.Batch.{Batch}
use Rattle.installation.specs.declared.call.Call.{Call}
use Rattle.installation.specs.declared.call.Call.TheVariants as call
use Rattle.installation.specs.declared.seat.Seat.{Seat}
use Rattle.installation.specs.declared.seat.Seat.TheVariants.{Free, Still, Moving}
use Rattle.installation.specs.Slots.{width, part, or_kept, Table}
use Rattle.installation.specs.Perform.{Lent, Desk, fresh, plan_at, start_in, entries_in, if_open, by_player, drawn, asked, plans_after, slot_after, Made, Turn, Turns, done, next, TurnsRun, Seated, counted, links_now, tree_now}
use Rattle.installation.specs.Hands.{Hand, Booked, Holds, Makes, Leads, is_free, may_draw, place_of, to_player, first_answer, open_answer}
use Rattle.installation.specs.Turns.{Plays}
use Rattle.installation.proofs.Tables.{part-long, table-new, table-put}
use Rattle.installation.proofs.Turned.{nobody-waits}

-- What an answer tells of the fault.
pub granted-none : {X E : Type 0} (o : Option E) (x y : X) → Ok x ≡ unless o y → (o ≡ None) × (x ≡ y)
granted-none None x y e = (refl, cc)
granted-none (Some f) x y e = absurd (cc)

pub refused-some : {X E : Type 0} (o : Option E) (f : E) (y : X) → Err f ≡ unless o y → o ≡ Some f
refused-some None f y e = absurd (cc)
refused-some (Some g) f y e = cc

not_some : {X : Type 0} (o : Option X) → is_some o ≡ false → o ≡ None
not_some None e = refl
not_some (Some x) e = absurd (cc)

-- A table written over twice.
drop-front : {X : Type 0} (xs ys : List X) → drop (length xs) (xs ++ ys) ≡ ys
drop-front [] ys = refl
drop-front (x ∷ xs) ys = drop-front xs ys

fronted-twice : {X : Type 0} (xs ys t : List X) → length xs ≡ length ys → fronted xs (fronted ys t) ≡ fronted xs t
fronted-twice xs ys t e =
    ap (λ n. xs ++ drop n (ys ++ drop (length ys) t)) e ∙ ap (λ z. xs ++ z) (drop-front ys (drop (length ys) t)) ∙ ap (λ n. xs ++ drop n t) (sym e)

-- The plan in a slot, by its counts.
get_or-mapped : {X Y : Type 0} (f : X → Y) (os : List (Option X)) (s : ℕ) → get_or (map (option_map f) os) s None ≡ option_map f (get_or os s None)
get_or-mapped f [] s = refl
get_or-mapped f (o ∷ os) zero = refl
get_or-mapped f (o ∷ os) (suc s) = get_or-mapped f os s

mapped-some : {X Y : Type 0} (f : X → Y) (o : Option X) (y : Y) → option_map f o ≡ Some y → (x : X) × (o ≡ Some x) × (f x ≡ y)
mapped-some f None y e = absurd (cc)
mapped-some f (Some x) y e = (x, refl, cc)

mapped-none : {X Y : Type 0} (f : X → Y) (o : Option X) → option_map f o ≡ None → o ≡ None
mapped-none f None e = refl
mapped-none f (Some x) e = absurd (cc)

pub some-within : {X : Type 0} (os : List (Option X)) (s : ℕ) (x : X) → get_or os s None ≡ Some x → s < length os
some-within os s x e =
    elim (cases_lt s (length os)) [ inl h ↦ h | inr h ↦ absurd (let a = get_or_past os s None h in cc) ]

-- The plan in a slot, as code that holds this reads it.
module _ {W F : Type 0} (h : Hand W F) (slot : ℕ) where
  abbrev sheet_by : Drawn → Sheet
  sheet_by d = record {
    n = d.n;
    m = d.m;
    k = d.k;
    start = part (width (length h.plans) h.start) slot h.start;
    entries = part (width (length h.plans) h.entries) slot h.entries;
  }

  abbrev pub sheet_of : Option Sheet
  sheet_of = option_map sheet_by (get_or h.plans slot None)

-- Two hands that hold the same, but for the player, its slot and the fabric.
pub record Alike {W F : Type 0} (h g : Hand W F) : Type 0 where
  pub n : g.n ≡ h.n
  pub ends : g.ends ≡ h.ends
  pub links : g.links ≡ h.links
  pub tree : g.tree ≡ h.tree
  pub refusal : g.refusal ≡ h.refusal
  pub plans : g.plans ≡ h.plans
  pub changes : g.changes ≡ h.changes
  pub start : g.start ≡ h.start
  pub entries : g.entries ≡ h.entries
  pub work : g.work ≡ h.work

holds_as : {W F : Type 0} {side : W → W → Side} (l : Lent W) (x y : Desk W F) (h g : Hand W F) → Alike h g
    → y.installation.book ≡ x.installation.book → y.installation.drawn ≡ x.installation.drawn → y.plans ≡ x.plans
    → g.at ≡ y.at → Seated g.seat (plan_at x.plans y.at) y.installation.player → y.installation.fabric ≡ g.fabric
    → Holds side l h x → Holds side l g y
holds_as {side = side} l x y h g a eb ed ep ea seated ef k = record {
  nodes = a.n ∙ k.nodes;
  ends = a.ends ∙ k.ends;
  changes = a.changes ∙ k.changes;
  work = a.work ∙ k.work;
  book = rw (eb, a.refusal, a.links, a.tree) k.book;
  slots = ap length ep ∙ k.slots;
  plans = a.plans ∙ k.plans ∙ ap (map (option_map counted)) (sym ep);
  drawn = λ s d e. rw ed (k.drawn s d (sym (ap (λ ps. plan_at ps s) ep) ∙ e));
  start = rw (ep, a.start) k.start;
  entries = rw (ep, a.entries) k.entries;
  at = ea;
  player = rw ep seated;
  fabric = ef;
}

-- When a draw is made.
may : (b : Batch) (changes slots : ℕ) (o : Option OpenFault) (s : Seat) (at : ℕ) → may_draw b changes slots o s at ≡ true
    → (o ≡ None) × ((leb b.from b.to && leb b.to changes && ltb b.slot slots) ≡ true) × ((is_free s || not (eqb b.slot at)) ≡ true)
may b changes slots (Some f) s at e = absurd (cc)
may b changes slots None s at e =
    let q = both (leb b.from b.to && leb b.to changes && ltb b.slot slots) (is_free s || not (eqb b.slot at)) e in (refl, q.0, q.1)
  where
    both : (p q : Bool) → cond p q false ≡ true → (p ≡ true) × (q ≡ true)
    both true q e = (refl, e)
    both false q e = absurd (cc)

pub may-slot : (b : Batch) (changes slots : ℕ) (o : Option OpenFault) (s : Seat) (at : ℕ) → may_draw b changes slots o s at ≡ true → b.slot < slots
may-slot b changes slots o s at e =
    ltb-true b.slot slots (and_parts (leb b.from b.to && leb b.to changes) (ltb b.slot slots) (may b changes slots o s at e).1).1

pub to-player : (c : Call) → (c ≡ call.Open → ⊥) → ((b : Batch) → c ≡ call.Draw b → ⊥) → to_player c ≡ true
to-player call.Open o d = absurd (o refl)
to-player (call.Draw b) o d = absurd (d b refl)
to-player _ o d = refl

plans-stay : {W : Type 0} (c : Call) → to_player c ≡ true → (a : Answer) (ds : List (DrawnPlan W)) (ps : List (Option (DrawnPlan W))) → ps ≡ plans_after c a ds ps
plans-stay (call.Draw b) t a ds ps = absurd (cc)
plans-stay _ t a ds ps = refl

-- A draw keeps off the slot of the player's plan.
differ : (at slot : ℕ) → (false || not (eqb slot at)) ≡ true → at ≡ slot → ⊥
differ at slot e q =
    elim (cases_Bool (eqb slot at)) [
      | inl t ↦ both_ways false refl (sym (ap (λ z. false || not z) t) ∙ e)
      | inr f ↦ eqb-false slot at f (sym q)
    ]

-- A player's call needs the player's plan, where there is a player.
own-place : (c : Call) (seat : Seat) (at : ℕ) → is_free seat ≡ false → place_of c seat at ≡ at
own-place (call.Lay s) seat at e = ap (λ z. cond z s at) e
own-place _ seat at e = refl

-- A call that is not made moves no player's slot.
pub slot-stays : (c : Call) (at : ℕ) → slot_after c NotMade at ≡ at
slot-stays (call.Lay s) at = refl
slot-stays _ at = refl

module _ {W F : Type 0} (side : W → W → Side) (carrying : F → List Bool) where
  -- A call that is not made.
  not_made : (l : Lent W) (x : Desk W F) (c : Call) → plans_after c NotMade x.installation.drawn x.plans ≡ x.plans
      → Made side carrying (asked l x c) x.installation NotMade x.installation → Turn side carrying l x c NotMade x
  not_made l x c e m = record { made = m; plans = sym e; at = sym (slot-stays c x.at) }

  -- The request to draw, where nothing is refused it; and whether it is made.
  abbrev wanted : Lent W → Desk W F → Batch → Option (Request W)
  wanted l x b =
      cond (leb b.from b.to && leb b.to (length l.changes) && ltb b.slot l.slots)
      (by_player x.installation.player (Some (drawn l x b)) (cond (eqb b.slot x.at) None (Some (drawn l x b)))
      (cond (eqb b.slot x.at) None (Some (drawn l x b)))) None

  module _ (i : Installation W F) (q : Request W) where
    abbrev allowed : Bool → Bool → Player W → Option (Request W)
    allowed test here p = cond test (by_player p (Some q) (cond here None (Some q)) (cond here None (Some q))) None

    waits : (test here : Bool) (s : Seat) (o : Option (DrawnPlan W)) (p : Player W) → Seated s o p → cond test (is_free s || not here) false ≡ false
        → Made side carrying (allowed test here p) i NotMade i
    waits false here s o p h e = (refl, refl)
    waits true here Free o p h e = absurd (cc)
    waits true true (Still a) o p h e = rw h.3 (refl, refl)
    waits true false (Still a) o p h e = absurd (cc)
    waits true true (Moving a) o p h e = rw h.4 (refl, refl)
    waits true false (Moving a) o p h e = absurd (cc)

    goes : {a : Answer} {j : Installation W F} (test here : Bool) (s : Seat) (o : Option (DrawnPlan W)) (p : Player W) → Seated s o p → test ≡ true
        → (is_free s || not here) ≡ true → Step side carrying i q a j → Made side carrying (allowed test here p) i a j
    goes false here s o p h t e m = absurd (cc)
    goes {a} {j} true here Free o p h t e m = rw h m
    goes true true (Still b) o p h t e m = absurd (cc)
    goes {a} {j} true false (Still b) o p h t e m = rw h.3 m
    goes true true (Moving b) o p h t e m = absurd (cc)
    goes {a} {j} true false (Moving b) o p h t e m = rw h.4 m

  module _ {h : Hand W F} {l : Lent W} {x : Desk W F} (k : Holds side l h x) where
    slots-are : length h.plans ≡ l.slots
    slots-are = ap length k.plans ∙ length-map x.plans (option_map counted) ∙ k.slots

    -- When a draw is made, by what was lent.
    may-lent : (b : Batch) (t : Bool) → may_draw b (length h.changes) (length h.plans) h.refusal h.seat h.at ≡ t
        → may_draw b (length l.changes) l.slots h.refusal h.seat x.at ≡ t
    may-lent b t e = rw (← k.changes, ← slots-are, ← k.at) e

  pub draw-waits : (b : Batch) (h : Hand W F) → may_draw b (length h.changes) (length h.plans) h.refusal h.seat h.at ≡ false
      → Makes side carrying h (call.Draw b) NotMade h
  draw-waits b h e l x k = (x, not_made l x (call.Draw b) refl (go h.refusal k.book (may-lent k b false e)), k)
    where
      go : (r : Option OpenFault) → Booked side l r h.links h.tree x.installation.book → may_draw b (length l.changes) l.slots r h.seat x.at ≡ false
          → Made side carrying (if_open x.installation.book (wanted l x b)) x.installation NotMade x.installation
      go (Some f) q e = rw q.0 (refl, refl)
      go None q e =
          subst (λ (z : Option (Network W)). Made side carrying (if_open z (wanted l x b)) x.installation NotMade x.installation) (sym q.0)
          (waits x.installation (drawn l x b) (leb b.from b.to && leb b.to (length l.changes) && ltb b.slot l.slots) (eqb b.slot x.at)
          h.seat (plan_at x.plans x.at) x.installation.player k.player e)

  -- The network that code holds, by what was lent.
  abbrev network : Lent W → Hand W F → Network W
  network l h = record { n = l.net.n; ends = l.net.ends; links = h.links }

  abbrev cut : Batch → List (Change W) → List (Change W)
  cut b cs = take (b.to - b.from) (drop b.from cs)

  module _ (b : Batch) (h : Hand W F) where
    abbrev batch : List (Change W)
    batch = cut b h.changes

    -- The slot's part of a table, as code cuts it.
    abbrev own_part : {X : Type 0} → List X → List X
    own_part t = part (width (length h.plans) t) b.slot t

    abbrev fault : Option DrawFault
    fault = draw_fault h.refusal h.n h.ends h.links batch (length (own_part h.start)) (length (own_part h.entries)) h.work

    module _ (go : may_draw b (length h.changes) (length h.plans) h.refusal h.seat h.at ≡ true) (l : Lent W) (x : Desk W F) (k : Holds side l h x) where
      abbrev ours : List (Change W)
      ours = cut b l.changes

      abbrev starts : List ℕ
      starts = or_kept (start_in x.plans b.slot) (part (width l.slots l.start) b.slot l.start)

      abbrev entries : List (ℕ × ℕ)
      entries = or_kept (entries_in x.plans b.slot) (part (width l.slots l.entries) b.slot l.entries)

      ready : (h.refusal ≡ None) × ((leb b.from b.to && leb b.to (length l.changes) && ltb b.slot l.slots) ≡ true)
          × ((is_free h.seat || not (eqb b.slot x.at)) ≡ true)
      ready = may b (length l.changes) l.slots h.refusal h.seat x.at (may-lent k b true go)

      in-slots : b.slot < l.slots
      in-slots = may-slot b (length l.changes) l.slots h.refusal h.seat x.at (may-lent k b true go)

      same-batch : batch ≡ ours
      same-batch = ap (cut b) k.changes

      same_width : {X : Type 0} (t u : List X) → length u ≡ length t → width (length h.plans) u ≡ width l.slots t
      same_width t u e = ap₂ (λ m n. m / n) e (slots-are k)

      start_is : own_part h.start ≡ starts
      start_is = ap (λ w. part w b.slot h.start) (same_width l.start h.start k.start.long) ∙ k.start.part-is b.slot in-slots

      entries-are : own_part h.entries ≡ entries
      entries-are = ap (λ w. part w b.slot h.entries) (same_width l.entries h.entries k.entries.long) ∙ k.entries.part-is b.slot in-slots

      book-is : x.installation.book ≡ Some (network l h)
      book-is = (subst (λ (o : Option OpenFault). Booked side l o h.links h.tree x.installation.book) ready.0 k.book).0

      same-fault : fault ≡ draw_fault None l.net.n l.net.ends h.links ours (length starts) (length entries) l.work
      same-fault = rw (ready.0, k.nodes, k.ends, k.changes, k.work, start_is, entries-are) refl

      -- The draw is made.
      made : {j : Installation W F} {a : Answer} → Step side carrying x.installation (drawn l x b) a j
          → Made side carrying (asked l x (call.Draw b)) x.installation a j
      made {j} {a} m =
          subst (λ (z : Option (Network W)). Made side carrying (if_open z (wanted l x b)) x.installation a j) (sym book-is)
          (goes x.installation (drawn l x b) (leb b.from b.to && leb b.to (length l.changes) && ltb b.slot l.slots) (eqb b.slot x.at)
          h.seat (plan_at x.plans x.at) x.installation.player k.player ready.1 ready.2 m)

      -- A table with the slot's part written.
      written : {X : Type 0} (was now : List X) (before after : ℕ → Option (List X)) (ys new : List X)
          → new ≡ put_mid (b.slot * width (length h.plans) now) (width (length h.plans) now) now ys → length ys ≡ length (own_part now)
          → after b.slot ≡ Some ys → ((s : ℕ) → (s ≡ b.slot → ⊥) → after s ≡ before s) → Table l.slots before was now → Table l.slots after was new
      written was now before after ys new e n here others t =
          let w : width (length h.plans) now ≡ width l.slots was = same_width was now t.long in
          let long : length ys ≡ width l.slots was =
          n ∙ part-long (length h.plans) b.slot now (let q = slots-are k in let i = in-slots in omega arith) ∙ w in
          rw (e ∙ ap (λ v. put_mid (b.slot * v) v now ys) w)
          (table-put l.slots b.slot before after was now ys in-slots long here others t)

      -- The plans in the slots, once one is drawn.
      module _ (d : DrawnPlan W) where
        abbrev shelved : List (Option (DrawnPlan W))
        shelved = set x.plans b.slot (Some d)

        at_slot : plan_at shelved b.slot ≡ Some d
        at_slot = get_or-set_same x.plans b.slot (Some d) None (let e = k.slots in let l = in-slots in omega arith)

        elsewhere : (s : ℕ) → (s ≡ b.slot → ⊥) → plan_at shelved s ≡ plan_at x.plans s
        elsewhere s n = get_or-set_other x.plans b.slot s (Some d) None n

        all-drawn : (s : ℕ) (e : DrawnPlan W) → plan_at shelved s ≡ Some e → One e (d ∷ x.installation.drawn)
        all-drawn s e q =
            elim (cases_eq s b.slot) [
              | inl same ↦ let a = at_slot in let c = ap (plan_at shelved) same in let same-plan : d ≡ e = cc in
                  subst (λ (z : DrawnPlan W). One z (d ∷ x.installation.drawn)) same-plan this
              | inr other ↦ older (k.drawn s e (sym (elsewhere s other) ∙ q))
            ]

        still-seated : (s : Seat) → (is_free s || not (eqb b.slot x.at)) ≡ true → Seated s (plan_at x.plans x.at) x.installation.player
            → Seated s (plan_at shelved x.at) x.installation.player
        still-seated Free e p = p
        still-seated (Still a) e p = rw (elsewhere x.at (differ x.at b.slot e)) p
        still-seated (Moving a) e p = rw (elsewhere x.at (differ x.at b.slot e)) p

        written_start : (g : Hand W F) (ss : List ℕ)
            → g.start ≡ put_mid (b.slot * width (length h.plans) h.start) (width (length h.plans) h.start) h.start ss
            → ss ≡ d.sheet.start → length ss ≡ length (own_part h.start) → Table l.slots (start_in shelved) l.start g.start
        written_start g ss e q n =
            written l.start h.start (start_in x.plans) (start_in shelved) ss g.start e n
            (ap (option_map (λ (z : DrawnPlan W). z.sheet.start)) at_slot ∙ ap (λ z. Some z) (sym q))
            (λ s o. ap (option_map (λ (z : DrawnPlan W). z.sheet.start)) (elsewhere s o)) k.start

        written-entries : (g : Hand W F) (es : List (ℕ × ℕ))
            → g.entries ≡ put_mid (b.slot * width (length h.plans) h.entries) (width (length h.plans) h.entries) h.entries es
            → es ≡ d.sheet.entries → length es ≡ length (own_part h.entries) → Table l.slots (entries_in shelved) l.entries g.entries
        written-entries g es e q n =
            written l.entries h.entries (entries_in x.plans) (entries_in shelved) es g.entries e n
            (ap (option_map (λ (z : DrawnPlan W). z.sheet.entries)) at_slot ∙ ap (λ z. Some z) (sym q))
            (λ s o. ap (option_map (λ (z : DrawnPlan W). z.sheet.entries)) (elsewhere s o)) k.entries

    -- It is granted.
    pub draw-makes : (go : may_draw b (length h.changes) (length h.plans) h.refusal h.seat h.at ≡ true)
        → Sided side → (is_some h.refusal ≡ false → is_some (network_fault h.n h.ends h.links (length h.tree)) ≡ false)
        → (g : Hand W F) (c : Drawn) (ss : List ℕ) (es : List (ℕ × ℕ)) → Ok c ≡ unless fault (counts side h.n h.ends h.links batch)
        → g.n ≡ h.n → g.ends ≡ h.ends → g.refusal ≡ h.refusal → g.changes ≡ h.changes → g.work ≡ h.work
        → g.seat ≡ h.seat → g.at ≡ h.at → g.fabric ≡ h.fabric
        → g.plans ≡ set h.plans b.slot (Some c)
        → g.links ≡ changed_by h.links batch
        → g.tree ≡ fronted (least_tree side h.ends (changed_by h.links batch)) h.tree
        → ss ≡ fronted (least_tree side h.ends h.links) (own_part h.start) → length ss ≡ length (own_part h.start)
        → g.start ≡ put_mid (b.slot * width (length h.plans) h.start) (width (length h.plans) h.start) h.start ss
        → es ≡ fronted (plan side h.ends h.links batch) (own_part h.entries) → length es ≡ length (own_part h.entries)
        → g.entries ≡ put_mid (b.slot * width (length h.plans) h.entries) (width (length h.plans) h.entries) h.entries es
        → Makes side carrying h (call.Draw b) (Drew c) g
    draw-makes go o sound g c ss es e gn ge gr gc gw gs ga gf gp gl gt ss-is ss-long gst es-is es-long gen l x k =
        let r = granted-none fault c (counts side h.n h.ends h.links batch) e in
        let net = network l h in
        let own = ours go l x k in
        let st = starts go l x k in
        let en = entries go l x k in
        let no : draw_fault None net.n net.ends net.links own (length st) (length en) l.work ≡ None = sym (same-fault go l x k) ∙ r.0 in
        let d = drawn_from side net own st en in
        let c-is : c ≡ counts side net.n net.ends net.links own =
        r.1 ∙ rw (k.nodes, k.ends, k.changes) refl in
        let links-is : g.links ≡ changed_by h.links own = gl ∙ ap (changed_by h.links) (same-batch go l x k) in
        let acc : Accepted net =
        rw (← k.nodes, ← k.ends) (open-accepts (record { n = h.n; ends = h.ends; links = h.links }) (length h.tree) (64 * (h.n + length h.ends))
        (not_some _ (sound (ap (λ (x : Option OpenFault). is_some x) (ready go l x k).0)))) in
        let acc' = all-accepted net acc own (length st) (length en) l.work no in
        let old = least_tree side l.net.ends h.links in
        let newer = least_tree side l.net.ends (changed_by h.links own) in
        let tree_is : g.tree ≡ fronted (least_tree side l.net.ends g.links) l.tree =
        gt ∙ ap (λ es. fronted (least_tree side es (changed_by h.links batch)) h.tree) k.ends
        ∙ ap (λ cs. fronted (least_tree side l.net.ends (changed_by h.links cs)) h.tree) (same-batch go l x k)
        ∙ ap (fronted newer) (subst (λ (z : Option OpenFault). Booked side l z h.links h.tree x.installation.book) (ready go l x k).0 k.book).1
        ∙ fronted-twice newer old l.tree (tree-length side o (after net own) acc' ∙ sym (tree-length side o net acc))
        ∙ ap (λ ls. fronted (least_tree side l.net.ends ls) l.tree) (sym links-is) in
        let j = drew x.installation (after net own) d in
        let y : Desk W F = record { installation = j; plans = set x.plans b.slot (Some d); at = x.at } in (
          y,
          record {
            made = made go l x k (rw c-is
                (draw-granted net own st en l.work (book-is go l x k) no));
            plans = refl;
            at = refl;
          },
          record {
            nodes = gn ∙ k.nodes;
            ends = ge ∙ k.ends;
            changes = gc ∙ k.changes;
            work = gw ∙ k.work;
            book = rw (gr ∙ (ready go l x k).0)
                (ap (λ ls. Some (record { n = l.net.n; ends = l.net.ends; links = ls })) (sym links-is), tree_is);
            slots = length-set x.plans b.slot (Some d) ∙ k.slots;
            plans = gp ∙ ap (λ (z : Drawn). set h.plans b.slot (Some z)) c-is ∙ ap (λ (ps : List (Option Drawn)). set ps b.slot (Some (counted d))) k.plans
                ∙ sym (map-set (option_map counted) x.plans b.slot (Some d));
            drawn = all-drawn go l x k d;
            start = written_start go l x k d g ss gst
                (ss-is ∙ ap (λ es. fronted (least_tree side es h.links) (own_part h.start)) k.ends
                ∙ ap (λ t. fronted (least_tree side l.net.ends h.links) t) (start_is go l x k)) ss-long;
            entries = written-entries go l x k d g es gen
                (es-is ∙ ap (λ ns. fronted (plan side ns h.links batch) (own_part h.entries)) k.ends
                ∙ ap (λ cs. fronted (plan side l.net.ends h.links cs) (own_part h.entries)) (same-batch go l x k)
                ∙ ap (λ t. fronted (plan side l.net.ends h.links (ours go l x k)) t) (entries-are go l x k)) es-long;
            at = ga ∙ k.at;
            player = rw gs
                (still-seated go l x k d h.seat (ready go l x k).2 k.player);
            fabric = k.fabric ∙ sym gf;
          },
        )

    -- It is refused.
    pub draw-fails : (go : may_draw b (length h.changes) (length h.plans) h.refusal h.seat h.at ≡ true)
        → (g : Hand W F) (f : DrawFault) → Err f ≡ unless fault (counts side h.n h.ends h.links batch)
        → Alike h g → g.seat ≡ h.seat → g.at ≡ h.at → g.fabric ≡ h.fabric → Makes side carrying h (call.Draw b) (NotDrawn f) g
    draw-fails go g f e a gs ga gf l x k =
        let r = refused-some fault f (counts side h.n h.ends h.links batch) e in (
          x,
          record {
            made = made go l x k (draw-refused (network l h) (ours go l x k) (starts go l x k) (entries go l x k) l.work f (book-is go l x k) (sym (same-fault go l x k) ∙ r));
            plans = refl;
            at = refl;
          },
          holds_as l x x h g a refl refl refl (ga ∙ k.at) (rw gs k.player)
              (k.fabric ∙ sym gf) k,
        )

  -- The same of an equal call and an equal answer.
  pub makes-as : {c c' : Call} {a a' : Answer} {h g : Hand W F} → c ≡ c' → a ≡ a' → Makes side carrying h c' a' g → Makes side carrying h c a g
  makes-as p q m = rw (p, q) m

  -- A further open.
  pub open-again : (h : Hand W F) → Makes side carrying h call.Open (open_answer h.refusal) h
  open-again h l x k = (x, go h.refusal k.book, k)
    where
      go : (r : Option OpenFault) → Booked side l r h.links h.tree x.installation.book → Turn side carrying l x call.Open (open_answer r) x
      go (Some f) b = record {
        made = rw b.0
            (open-refused l.net (length l.tree) l.work f b.1);
        plans = refl;
        at = refl;
      }
      go None b = record {
        made = rw b.0 (refl, refl);
        plans = refl;
        at = refl;
      }

  -- A player's call that needs a plan where there is none.
  module _ (l : Lent W) (x : Desk W F) where
    no-plan : (c : Call) (seat : Seat) → to_player c ≡ true → Seated seat (plan_at x.plans x.at) x.installation.player
        → plan_at x.plans (place_of c seat x.at) ≡ None → Made side carrying (asked l x c) x.installation NotMade x.installation
    no-plan c (Still p) t h e = absurd (let a = h.2 in let b = ap (plan_at x.plans) (own-place c (Still p) x.at refl) in cc)
    no-plan c (Moving p) t h e = absurd (let a = h.3 in let b = ap (plan_at x.plans) (own-place c (Moving p) x.at refl) in cc)
    no-plan call.Open Free t h e = absurd (cc)
    no-plan (call.Draw b) Free t h e = absurd (cc)
    no-plan (call.Lay s) Free t h e = rw (h, e) (refl, refl)
    no-plan _ Free t h e = nobody-waits side carrying x.installation _ _ h

  pub play-waits : (c : Call) (h : Hand W F) → to_player c ≡ true → None ≡ sheet_of h (place_of c h.seat h.at) → Makes side carrying h c NotMade h
  play-waits c h t e l x k =
      let none : plan_at x.plans (place_of c h.seat x.at) ≡ None =
      mapped-none counted (plan_at x.plans (place_of c h.seat x.at))
      (sym (get_or-mapped counted x.plans (place_of c h.seat x.at)) ∙ sym (ap (λ ps. get_or ps (place_of c h.seat x.at) None) k.plans)
      ∙ sym (ap (λ n. get_or h.plans (place_of c h.seat n) None) k.at)
      ∙ mapped-none (sheet_by h (place_of c h.seat h.at)) (get_or h.plans (place_of c h.seat h.at) None) (sym e)) in
      (x, not_made l x c (sym (plans-stay c t NotMade x.installation.drawn x.plans)) (no-plan l x c h.seat t k.player none), k)

  -- A player's call, with the plan that it needs.
  pub play-makes : (c : Call) (a : Answer) (h g : Hand W F) (s : Sheet) → to_player c ≡ true → Some s ≡ sheet_of h (place_of c h.seat h.at)
      → Alike h g → g.at ≡ slot_after c a h.at
      → Plays side carrying s (place_of c h.seat h.at) c a h.seat h.fabric g.seat g.fabric → Makes side carrying h c a g
  play-makes c a h g s tp e al ga y l x k =
      let place = place_of c h.seat h.at in
      let same_place : place ≡ place_of c h.seat x.at = ap (place_of c h.seat) k.at in
      let read = mapped-some (sheet_by h place) (get_or h.plans place None) s (sym e) in
      let found = mapped-some counted (plan_at x.plans place) read.0 (sym (get_or-mapped counted x.plans place) ∙ sym (ap (λ ps. get_or ps place None) k.plans) ∙ read.1) in
      let d = found.0 in
      let inside : place < l.slots = let a = some-within x.plans place d found.1 in let b = k.slots in omega arith in
      let st : d.sheet.start ≡ part (width (length h.plans) h.start) place h.start =
      rw (k.start.long, slots-are k) (sym (k.start.part-is place inside
      ∙ ap (λ (o : Option (DrawnPlan W)). or_kept (option_map (λ (z : DrawnPlan W). z.sheet.start) o) (part (width l.slots l.start) place l.start)) found.1)) in
      let en : d.sheet.entries ≡ part (width (length h.plans) h.entries) place h.entries =
      rw (k.entries.long, slots-are k) (sym (k.entries.part-is place inside
      ∙ ap (λ (o : Option (DrawnPlan W)). or_kept (option_map (λ (z : DrawnPlan W). z.sheet.entries) o) (part (width l.slots l.entries) place l.entries)) found.1)) in
      let same : d.sheet ≡ s =
      ap (λ (z : Drawn). record { n = z.n; m = z.m; k = z.k; start = d.sheet.start; entries = d.sheet.entries }) found.2
      ∙ ap₂ (λ (u : List ℕ) (v : List (ℕ × ℕ)). record { n = read.0.n; m = read.0.m; k = read.0.k; start = u; entries = v }) st en ∙ read.2 in
      let r = y l x (record {
        plan = d;
        there = found.1;
        one = k.drawn place d found.1;
        sheet = same;
        own = λ f. same_place ∙ own-place c h.seat x.at f;
        fabric = k.fabric;
        player = k.player;
      }) in
      let j = r.0 in
      let z : Desk W F = record { installation = j; plans = x.plans; at = slot_after c a x.at } in (
        z,
        record { made = r.1; plans = plans-stay c tp a j.drawn x.plans; at = refl },
        holds_as l x z h g al r.2.book r.2.drawn refl (ga ∙ ap (slot_after c a) k.at) r.2.player r.2.fabric k,
      )

  -- One more call.
  pub turns-on : {l : Lent W} {x y z : Desk W F} {cs : List Call} {rs : List Answer} (c : Call) (a : Answer)
      → Turns side carrying l x cs rs y → Turn side carrying l y c a z → Turns side carrying l x (cs ++ c ∷ []) (rs ++ a ∷ []) z
  turns-on c a done m = next m done
  turns-on c a (next n t) m = next n (turns-on c a t m)

  pub turns_then : {l : Lent W} {x y z : Desk W F} {cs ds : List Call} {rs qs : List Answer}
      → Turns side carrying l x cs rs y → Turns side carrying l y ds qs z → Turns side carrying l x (cs ++ ds) (rs ++ qs) z
  turns_then done u = u
  turns_then (next n t) u = next n (turns_then t u)

  run-made : {k i j : Installation W F} (a : Answer) (o : Option (Request W)) → Made side carrying o i a j → Runs side carrying k i → Runs side carrying k j
  run-made {k} a None m r = rw m.1 r
  run-made a (Some q) m r = then r m

  run-turns : {l : Lent W} {k : Installation W F} {x y : Desk W F} {cs : List Call} {rs : List Answer} → Turns side carrying l x cs rs y
      → Runs side carrying k x.installation → Runs side carrying k y.installation
  run-turns done r = r
  run-turns {l} (next {x} {y} {z} {c} {a} n t) r = run-turns t (run-made a (asked l x c) n.made r)

  pub turns-run : TurnsRun side carrying
  turns-run l x y cs rs t = run-turns t none

  pub leads-none : (h : Hand W F) → Leads side carrying h [] [] h
  leads-none h l x k = (x, done, k)

  pub leads-on : (h g f : Hand W F) (cs : List Call) (rs : List Answer) (c : Call) (a : Answer)
      → Leads side carrying h cs rs g → Makes side carrying g c a f → Leads side carrying h (cs ++ c ∷ []) (rs ++ a ∷ []) f
  leads-on h g f cs rs c a p q l x k =
      let u = p l x k in
      let v = q l u.0 u.2 in
      (v.0, turns-on c a u.1 v.1, v.2)

  -- Before the first open no call is made.
  none-there : (n s : ℕ) → plan_at {W = W} (replicate n None) s ≡ None
  none-there zero s = refl
  none-there (suc n) zero = refl
  none-there (suc n) (suc s) = none-there n s

  pub new-waits : (c : Call) → (c ≡ call.Open → ⊥) → (l : Lent W) (f : F) → Turn side carrying l (fresh l f) c NotMade (fresh l f)
  new-waits call.Open o l f = absurd (o refl)
  new-waits (call.Lay s) o l f = record {
    made = rw (none-there l.slots s) (refl, refl);
    plans = refl;
    at = refl;
  }
  new-waits _ o l f = record { made = (refl, refl); plans = refl; at = refl }

  pub new-plans : (n : ℕ) → replicate n None ≡ map (option_map (counted {W = W})) (replicate n None)
  new-plans zero = refl
  new-plans (suc n) = ap (λ z. None ∷ z) (new-plans n)

  pub new-start : (l : Lent W) → Table l.slots (start_in {W = W} (replicate l.slots None)) l.start l.start
  new-start l = table-new l.slots _ l.start (λ s. ap (option_map (λ (d : DrawnPlan W). d.sheet.start)) (none-there l.slots s))

  pub new-entries : (l : Lent W) → Table l.slots (entries_in {W = W} (replicate l.slots None)) l.entries l.entries
  new-entries l = table-new l.slots _ l.entries (λ s. ap (option_map (λ (d : DrawnPlan W). d.sheet.entries)) (none-there l.slots s))

  -- The first open.
  pub first-open : (l : Lent W) (f : F) (h : Hand W F)
      → h.refusal ≡ open_fault l.net.n l.net.ends l.net.links (length l.tree) l.work
      → h.n ≡ l.net.n → h.ends ≡ l.net.ends → h.links ≡ l.net.links
      → h.tree ≡ cond (is_some h.refusal) l.tree (fronted (least_tree side l.net.ends l.net.links) l.tree)
      → h.plans ≡ replicate l.slots None → h.changes ≡ l.changes → h.start ≡ l.start → h.entries ≡ l.entries → h.work ≡ l.work
      → h.seat ≡ Free → h.at ≡ 0 → f ≡ h.fabric
      → (y : Desk W F) × Turn side carrying l (fresh l f) call.Open (first_answer h.refusal) y × Holds side l h y
  first-open l f h e hn he hl ht hp hc hs hen hw hse ha hf = go h.refusal refl
    where
      desk : Option (Network W) → Desk W F
      desk o = record { installation = record { book = o; drawn = []; fabric = f; player = nobody; laid = false }; plans = replicate l.slots None; at = 0 }

      tree_is : (r : Option OpenFault) → h.refusal ≡ r → h.tree ≡ cond (is_some r) l.tree (fronted (least_tree side l.net.ends l.net.links) l.tree)
      tree_is r q = ht ∙ ap (λ (z : Option OpenFault). cond (is_some z) l.tree (fronted (least_tree side l.net.ends l.net.links) l.tree)) q

      held : (r : Option OpenFault) → h.refusal ≡ r → (o : Option (Network W)) → Booked side l r h.links h.tree o → Holds side l h (desk o)
      held r q o b = record {
        nodes = hn;
        ends = he;
        changes = hc;
        work = hw;
        book = rw q b;
        slots = length-replicate l.slots None;
        plans = hp ∙ new-plans l.slots;
        drawn = λ s d e. absurd (let a = none-there l.slots s in cc);
        start = rw hs (new-start l);
        entries = rw hen (new-entries l);
        at = ha;
        player = rw hse refl;
        fabric = hf;
      }

      go : (r : Option OpenFault) → h.refusal ≡ r → (y : Desk W F) × Turn side carrying l (fresh l f) call.Open (first_answer r) y × Holds side l h y
      go None q = (
        desk (Some l.net),
        record { made = open-granted l.net (length l.tree) l.work refl (sym e ∙ q); plans = refl; at = refl },
        held None q (Some l.net) (
          ap (λ ls. Some (record { n = l.net.n; ends = l.net.ends; links = ls })) (sym hl),
          tree_is None q ∙ ap (λ ls. fronted (least_tree side l.net.ends ls) l.tree) (sym hl),
        ),
      )
      go (Some z) q = (
        desk None,
        record { made = open-refused l.net (length l.tree) l.work z (sym e ∙ q); plans = refl; at = refl },
        held (Some z) q None (refl, sym e ∙ q, hl, tree_is (Some z) q),
      )

  -- What is left in the tables.
  module _ (l : Lent W) (o : Option (Network W)) (h : Hand W F) where
    pub links-left : (r : Option OpenFault) → Booked side l r h.links h.tree o → h.links ≡ links_now l.net.links o
    links-left None b = sym (ap (links_now l.net.links) b.0)
    links-left (Some f) b = b.2 ∙ sym (ap (links_now l.net.links) b.0)

    pub tree-left : (r : Option OpenFault) → Booked side l r h.links h.tree o → h.tree ≡ tree_now side l.tree o
    tree-left None b = b.1 ∙ sym (ap (tree_now side l.tree) b.0)
    tree-left (Some f) b = b.3 ∙ sym (ap (tree_now side l.tree) b.0)

  -- All of it: no call is made before the first open, then that is made, then the rest.
  pub performs : (l : Lent W) (f : F) (cs : List Call) (rs tail : List Answer) (at : ℕ) (h g : Hand W F) → at < length cs → get_or cs at call.Open ≡ call.Open
      → Turns side carrying l (fresh l f) (take at cs) rs (fresh l f)
      → (y : Desk W F) × Turn side carrying l (fresh l f) call.Open (first_answer h.refusal) y × Holds side l h y
      → Leads side carrying h (drop (at + 1) cs) tail g
      → (y : Desk W F) × Turns side carrying l (fresh l f) cs (rs ++ first_answer h.refusal ∷ tail) y × Holds side l g y
  performs l f cs rs tail at h g in1 e before opens rest =
      let r = rest l opens.0 opens.2 in
      let a = first_answer h.refusal in
      let whole : cs ≡ take at cs ++ call.Open ∷ drop (at + 1) cs =
      sym (take-append-drop at cs) ∙ ap (λ z. take at cs ++ z) (drop_more cs at call.Open in1 ∙ ap (λ z. z ∷ drop (at + 1) cs) e) in (
        r.0,
        rw whole (turns_then before (next opens.1 r.1)),
        r.2,
      )

-- A slot's part as code cuts and writes it.
module _ {X : Type 0} (slots s a b : ℕ) (xs : List X) (from : a ≡ s * (length xs / slots)) (to : b ≡ s * (length xs / slots) + length xs / slots) where
  wide : b - a ≡ width slots xs
  wide = omega (arith, from, to)

  pub cut-is : take (b - a) (drop a xs) ≡ part (width slots xs) s xs
  cut-is = ap₂ (λ m n. take m (drop n xs)) wide from

  pub put_is : (ys : List X) → put_mid a (b - a) xs ys ≡ put_mid (s * width slots xs) (width slots xs) xs ys
  put_is ys = ap₂ (λ m n. put_mid n m xs ys) wide from
