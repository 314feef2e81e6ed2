-- What every call keeps, and so what stands after any calls.
use Rattle.std.proofs.Common.{◌≡◌, ℕ, ◌+◌, ◌-◌, ◌<◌, ◌≤◌, Bool, true, false, List, [], ◌∷◌, length, get_or, Some, None, Ok, Err, Option, Result, sym, refl, ap, ◌∙◌, subst, add-one, arith}
use Rattle.std.proofs.lemmas.Bool.{both_ways}
use Rattle.std.proofs.lemmas.Bool.Decides.{nat_tests}
use Rattle.weights.specs.declared.order.Side.{Side}
use Rattle.network.specs.declared.types.Ends.{Ends}
use Rattle.network.specs.declared.types.Change.{Change}
use Rattle.graphs.specs.Forest.{LoopFree}
use Rattle.plans.specs.Network.{Sided, least_tree, changed_by, links_at, plan, work_count}
use Rattle.planner.specs.Draw.{draw_fault}
use Rattle.fabrics.specs.Meaning.{carries}
use Rattle.player.specs.declared.states.Steady.{Steady}
use Rattle.player.specs.declared.states.Between.{Between}
use Rattle.player.specs.declared.states.Kept.{Kept}
use Rattle.player.specs.Plan.{Sheet, starts, entry}
use Rattle.player.specs.States.{Rest, rest, Way, way}
use Rattle.player.specs.Lay.{only, Lays}
use Rattle.player.specs.Moves.{dimmed, lit, onward, back, arrived, returned, Forwards, Backwards, Joins, Cancels}
use Rattle.promise.specs.Undo.{Exchanged}
use Rattle.player.proofs.Nones.{none-some}
use Rattle.promise.specs.Installation.{Network, after, DrawnPlan, moment, drawn_from, Player, nobody, steady, between, Installation, new}
use Rattle.promise.specs.Calls.{Request, One, this, older, opened, drew, laid, played, departed, arrived_at, Step, open-granted, open-refused, draw-granted, draw-refused, lay-granted, lay-refused, forwards, backwards, joins, cancels, abandons, finishes, Runs, none, then, Reached}
use Rattle.promise.specs.declared.answer.Answer.{Answer}
use Rattle.promise.specs.Promise.{carried, CarriesLeastTree, Stands, NeverBroken}
use Rattle.promise.proofs.Flags.{remade, unput, reversed, fewer}
use Rattle.promise.proofs.Accepted.{Accepted, open-accepts, draw-accepts, all-accepted}
use Rattle.promise.proofs.Trees.{fewer-loops, tree-carried, start-read}
use Rattle.promise.proofs.Entries.{entry-exchanged, entry-names, entry_read, least-bound}

-- A plan that a granted draw left behind.
record Valid {W : Type 0} (side : W → W → Side) (d : DrawnPlan W) : Type 0 where
  moments : (t : ℕ) → Accepted (moment d t)
  size : d.sheet.m ≡ length d.found.ends
  many : d.sheet.k ≡ length d.batch
  start : starts d.sheet ≡ least_tree side d.found.ends d.found.links
  entries : (t : ℕ) → t < length d.batch → entry d.sheet t ≡ get_or (plan side d.found.ends d.found.links d.batch) t (0, 0)
  counted : d.work ≡ work_count side d.found.n d.found.ends d.found.links d.batch

-- The least tree of a moment of a plan, as carrying links.
abbrev tree : {W : Type 0} → (W → W → Side) → DrawnPlan W → ℕ → List Bool
tree side d t = only (length d.found.ends) (least_tree side d.found.ends (links_at d.found.links d.batch t))

first-tree : {W : Type 0} (side : W → W → Side) (d : DrawnPlan W)
    → only (length d.found.ends) (least_tree side d.found.ends d.found.links) ≡ tree side d 0
unfolding changed_by
first-tree side d = refl

-- A steady player's numbers at moment t of a plan.
abbrev at_rest : Sheet → ℕ → Rest
at_rest s t = record { n = s.n; m = s.m; k = s.k; t = t }

-- A player that is steady after t changes, or between two moments, over the carrying links c.
record SteadyAt {W : Type 0} (side : W → W → Side) (p : Steady) (t : ℕ) (d : DrawnPlan W) (ds : List (DrawnPlan W)) (l : Bool) (c : List Bool) : Type 0 where
  own : One d ds
  ever : l ≡ true
  numbers : rest p ≡ at_rest d.sheet t
  within : t ≤ length d.batch
  carries-tree : c ≡ tree side d t

record BetweenAt {W : Type 0} (side : W → W → Side) (b : Way) (t u : ℕ) (d : DrawnPlan W) (ds : List (DrawnPlan W)) (l : Bool) (c : List Bool) : Type 0 where
  own : One d ds
  ever : l ≡ true
  ahead : arrived b ≡ at_rest d.sheet u
  behind : returned b ≡ at_rest d.sheet t
  from-within : t ≤ length d.batch
  to-within : u ≤ length d.batch
  joins-to : lit c b.coming ≡ tree side d u
  cancels-to : lit c b.leaving ≡ tree side d t

abbrev Plays : {W : Type 0} → (W → W → Side) → Player W → List (DrawnPlan W) → Bool → List Bool → Type 0
Plays side nobody ds l c = Unit {0}
Plays side (steady p t d) ds l c = SteadyAt side p t d ds l c
Plays side (between b t u d) ds l c = BetweenAt side (way b) t u d ds l c

abbrev Opened : {W : Type 0} → Option (Network W) → (Network W → Type 0) → Type 0
Opened {W} o P = (g : Network W) × (o ≡ Some g) × P g

record Sound {W F : Type 0} (side : W → W → Side) (carrying : F → List Bool) (i : Installation W F) : Type 0 where
  accepted : (g : Network W) → i.book ≡ Some g → Accepted g
  valid : (d : DrawnPlan W) → One d i.drawn → Valid side d
  alike : (d : DrawnPlan W) → One d i.drawn → Opened i.book (λ g. d.found.ends ≡ g.ends)
  plays : Plays side i.player i.drawn i.laid (carrying i.fabric)
  loopless : i.laid ≡ true → Opened i.book (λ g. LoopFree (carried g.ends (carrying i.fabric)))

not-one : {W : Type 0} {d : DrawnPlan W} → One d [] → ⊥
not-one o = elim o [ ]

some_is : {X : Type 0} {x y : X} → Some x ≡ Some y → x ≡ y
some_is e = cc

module _ {W : Type 0} (side : W → W → Side) (o : Sided side) where
  -- The trees of two moments in turn differ by exactly the entry.
  trees-exchanged : (d : DrawnPlan W) → Valid side d → (t : ℕ) → t < length d.batch
      → Exchanged (entry d.sheet t).0 (entry d.sheet t).1 (tree side d t) (tree side d (t + 1))
  trees-exchanged d v t h =
      subst (λ (e : ℕ × ℕ). Exchanged e.0 e.1 (tree side d t) (tree side d (t + 1))) (sym (v.entries t h))
      (subst (λ (u : ℕ). Exchanged (get_or (plan side d.found.ends d.found.links d.batch) t (0, 0)).0
      (get_or (plan side d.found.ends d.found.links d.batch) t (0, 0)).1 (tree side d t) (tree side d u)) (sym (add-one t))
      (entry-exchanged side o d.found d.batch v.moments t h))

  drawn-valid : (g : Network W) → Accepted g → (batch : List (Change W)) (start : List ℕ) (entries : List (ℕ × ℕ)) (w : ℕ)
      → draw_fault None g.n g.ends g.links batch (length start) (length entries) w ≡ None → Valid side (drawn_from side g batch start entries)
  drawn-valid g a batch start entries w h =
      let m = draw-accepts g a batch (length start) (length entries) w h in
      record {
        moments = m;
        size = refl;
        many = refl;
        start = start-read side o g a start;
        entries = entry_read side o g batch m entries;
        counted = refl;
      }

  module _ {F : Type 0} (carrying : F → List Bool) where
    module _ {i : Installation W F} (s : Sound side carrying i) where
      -- A moment's tree holds no loop.
      as-tree : (d : DrawnPlan W) (t : ℕ) (c : List Bool) → One d i.drawn → c ≡ tree side d t
          → Opened i.book (λ g. LoopFree (carried g.ends c))
      as-tree d t c own e =
          let r = s.alike d own in
          let k = (tree-carried side o (moment d t) ((s.valid d own).moments t)).tree.free in
          (r.0, r.1, subst (λ (es : List Ends). LoopFree (carried es c)) r.2 (subst (λ (x : List Bool). LoopFree (carried d.found.ends x)) (sym e) k))

      with-player : (f : F) (p : Player W) (l : Bool) → Plays side p i.drawn l (carrying f)
          → (l ≡ true → Opened i.book (λ g. LoopFree (carried g.ends (carrying f))))
          → Sound side carrying (record { book = i.book; drawn = i.drawn; fabric = f; player = p; laid = l })
      with-player f p l h n = record { accepted = s.accepted; valid = s.valid; alike = s.alike; plays = h; loopless = n }

      -- A refused call of the player: what carries is as before.
      stays : (f : F) (p : Player W) → Plays side p i.drawn i.laid (carrying i.fabric) → carrying f ≡ carrying i.fabric
          → Sound side carrying (played i f p)
      stays f p h e =
          with-player f p i.laid (subst (λ (c : List Bool). Plays side p i.drawn i.laid c) (sym e) h)
          (λ l. subst (λ (c : List Bool). Opened i.book (λ g. LoopFree (carried g.ends c))) (sym e) (s.loopless l))

      steady-of : (p : Steady) (t : ℕ) (d : DrawnPlan W) → i.player ≡ steady p t d → SteadyAt side p t d i.drawn i.laid (carrying i.fabric)
      steady-of p t d e = subst (λ (q : Player W). Plays side q i.drawn i.laid (carrying i.fabric)) e s.plays

      between-of : (b : Between) (t u : ℕ) (d : DrawnPlan W) → i.player ≡ between b t u d
          → BetweenAt side (way b) t u d i.drawn i.laid (carrying i.fabric)
      between-of b t u d e = subst (λ (q : Player W). Plays side q i.drawn i.laid (carrying i.fabric)) e s.plays

      lay-keeps : (d : DrawnPlan W) (p : Steady) (f : F) → One d i.drawn
          → Lays d.sheet (carrying i.fabric) (Ok p) (carrying f) → Sound side carrying (laid i f (steady p 0 d))
      lay-keeps d p f own h =
          let v = s.valid d own in
          let e : carrying f ≡ tree side d 0 =
          h.2 ∙ ap (λ m. only m (starts d.sheet)) v.size ∙ ap (only (length d.found.ends)) v.start ∙ first-tree side d in
          with-player f (steady p 0 d) true
          (record { own = own; ever = refl; numbers = h.1; within = omega arith; carries-tree = e })
          (λ l. as-tree d 0 (carrying f) own e)

      -- A granted move: the leaving link is off, and both ends of the way are in reach.
      departs : (d : DrawnPlan W) (p : Steady) (b : Between) (t u : ℕ) (f : F) (w : Way)
          → SteadyAt side p t d i.drawn i.laid (carrying i.fabric)
          → way b ≡ w → arrived w ≡ at_rest d.sheet u → returned w ≡ at_rest d.sheet t → u ≤ length d.batch
          → Exchanged w.leaving w.coming (tree side d t) (tree side d u)
          → carrying f ≡ dimmed (carrying i.fabric) b.leaving
          → Sound side carrying (played i f (between b t u d))
      departs d p b t u f w k e a r h x q =
          let l : b.leaving ≡ w.leaving = ap (λ z. z.leaving) e in
          let m : b.coming ≡ w.coming = ap (λ z. z.coming) e in
          let cf : carrying f ≡ dimmed (tree side d t) w.leaving =
          q ∙ ap (λ z. dimmed z b.leaving) k.carries-tree ∙ ap (dimmed (tree side d t)) l in
          let j : lit (carrying f) b.coming ≡ tree side d u =
          ap (λ z. lit z b.coming) cf ∙ ap (lit (dimmed (tree side d t) w.leaving)) m
          ∙ remade (tree side d t) (tree side d u) w.leaving w.coming x in
          let z : lit (carrying f) b.leaving ≡ tree side d t =
          ap (λ z. lit z b.leaving) cf ∙ ap (lit (dimmed (tree side d t) w.leaving)) l
          ∙ unput false true (tree side d t) w.leaving (λ n. (x.out n).0) in
          with-player f (between b t u d) i.laid
          (record {
            own = k.own;
            ever = k.ever;
            ahead = ap arrived e ∙ a;
            behind = ap returned e ∙ r;
            from-within = k.within;
            to-within = h;
            joins-to = j;
            cancels-to = z;
          })
          (λ y.
          let v = s.loopless y in (
            v.0,
            v.1,
            fewer-loops v.0.ends (carrying i.fabric) (carrying f)
                (λ n g. fewer (carrying i.fabric) b.leaving n (subst (λ (c : List Bool). carries c n ≡ true) q g)) v.2,
          ))

      forward-keeps : (p : Steady) (t : ℕ) (d : DrawnPlan W) (r : Result Between (Kept Steady)) (f : F) → i.player ≡ steady p t d
          → Forwards (rest p) d.sheet (carrying i.fabric) r (carrying f) → Sound side carrying (played i f (departed t (t + 1) d r))
      forward-keeps p t d (Ok b) f e h =
          let k = steady-of p t d e in
          let v = s.valid d k.own in
          let g = subst (λ (q : Rest). Forwards q d.sheet (carrying i.fabric) (Ok b) (carrying f)) k.numbers h in
          let free = g.0 in
          let lt : t < d.sheet.k = grind (arith, nat_tests) in
          let n : t < length d.batch = rw v.many at lt in
          departs d p b t (t + 1) f (onward (at_rest d.sheet t) d.sheet) k g.1 refl refl (omega arith) (trees-exchanged d v t n) g.2
      forward-keeps p t d (Err k) f e h =
          let q = steady-of p t d e in
          stays f (steady k.player t d)
          (record { own = q.own; ever = q.ever; numbers = h.1 ∙ q.numbers; within = q.within; carries-tree = q.carries-tree }) h.2

      backward-keeps : (p : Steady) (t : ℕ) (d : DrawnPlan W) (r : Result Between (Kept Steady)) (f : F) → i.player ≡ steady p t d
          → Backwards (rest p) d.sheet (carrying i.fabric) r (carrying f) → Sound side carrying (played i f (departed t (t - 1) d r))
      backward-keeps p t d (Ok b) f e h =
          let k = steady-of p t d e in
          let v = s.valid d k.own in
          let g = subst (λ (q : Rest). Backwards q d.sheet (carrying i.fabric) (Ok b) (carrying f)) k.numbers h in
          let free = g.0 in
          let nz : t ≡ 0 → ⊥ = λ z. grind (arith, nat_tests) in
          let again : t - 1 + 1 ≡ t = omega arith in
          let n : t - 1 < length d.batch = let w = k.within in omega arith in
          let y = subst (λ (z : ℕ). Exchanged (entry d.sheet (t - 1)).0 (entry d.sheet (t - 1)).1 (tree side d (t - 1)) (tree side d z)) again
          (trees-exchanged d v (t - 1) n) in
          departs d p b t (t - 1) f (back (at_rest d.sheet t) d.sheet) k g.1 refl refl (omega arith)
          (reversed (tree side d (t - 1)) (tree side d t) (entry d.sheet (t - 1)).0 (entry d.sheet (t - 1)).1 y) g.2
      backward-keeps p t d (Err k) f e h =
          let q = steady-of p t d e in
          stays f (steady k.player t d)
          (record { own = q.own; ever = q.ever; numbers = h.1 ∙ q.numbers; within = q.within; carries-tree = q.carries-tree }) h.2

      -- A granted join or cancel: the player is steady at a moment whose tree carries.
      arrives : (p : Steady) (t : ℕ) (d : DrawnPlan W) (f : F) → One d i.drawn → i.laid ≡ true → rest p ≡ at_rest d.sheet t
          → t ≤ length d.batch → carrying f ≡ tree side d t → Sound side carrying (played i f (steady p t d))
      arrives p t d f own l n h e =
          with-player f (steady p t d) i.laid (record { own = own; ever = l; numbers = n; within = h; carries-tree = e })
          (λ _. as-tree d t (carrying f) own e)

      waits : (b q : Between) (t u : ℕ) (d : DrawnPlan W) (f : F) → BetweenAt side (way b) t u d i.drawn i.laid (carrying i.fabric)
          → way q ≡ way b → carrying f ≡ carrying i.fabric → Sound side carrying (played i f (between q t u d))
      waits b q t u d f k e h =
          stays f (between q t u d) (subst (λ (w : Way). BetweenAt side w t u d i.drawn i.laid (carrying i.fabric)) (sym e) k) h

      join-keeps : (b : Between) (t u : ℕ) (d : DrawnPlan W) (r : Result Steady (Kept Between)) (f : F) → i.player ≡ between b t u d
          → Joins (way b) (carrying i.fabric) r (carrying f) → Sound side carrying (played i f (arrived_at t u u d r))
      join-keeps b t u d (Ok p) f e h =
          let k = between-of b t u d e in
          arrives p u d f k.own k.ever (h.1 ∙ k.ahead) k.to-within (h.2 ∙ k.joins-to)
      join-keeps b t u d (Err q) f e h = waits b q.player t u d f (between-of b t u d e) h.1 h.2

      cancel-keeps : (b : Between) (t u : ℕ) (d : DrawnPlan W) (r : Result Steady (Kept Between)) (f : F) → i.player ≡ between b t u d
          → Cancels (way b) (carrying i.fabric) r (carrying f) → Sound side carrying (played i f (arrived_at t u t d r))
      cancel-keeps b t u d (Ok p) f e h =
          let k = between-of b t u d e in
          arrives p t d f k.own k.ever (h.1 ∙ k.behind) k.from-within (h.2 ∙ k.cancels-to)
      cancel-keeps b t u d (Err q) f e h = waits b q.player t u d f (between-of b t u d e) h.1 h.2

      leaves : Sound side carrying (played i i.fabric nobody)
      leaves = with-player i.fabric nobody i.laid tt s.loopless

      open-keeps : (g : Network W) → i.book ≡ None → Accepted g → Sound side carrying (opened i g)
      open-keeps g e a = record {
        accepted = λ h q. subst Accepted (some_is q) a;
        valid = s.valid;
        alike = λ d own. let r = s.alike d own in absurd (none-some i.book r.0 e r.1);
        plays = s.plays;
        loopless = λ l. let r = s.loopless l in absurd (none-some i.book r.0 e r.1);
      }

      more-valid : (d : DrawnPlan W) → Valid side d → (e : DrawnPlan W) → One e (d ∷ i.drawn) → Valid side e
      more-valid d v e this = v
      more-valid d v e (older own) = s.valid e own

      more-alike : (d : DrawnPlan W) (h : Network W) → d.found.ends ≡ h.ends → ((k : Network W) → i.book ≡ Some k → k.ends ≡ h.ends)
          → (e : DrawnPlan W) → One e (d ∷ i.drawn) → Opened (Some h) (λ g. e.found.ends ≡ g.ends)
      more-alike d h q f e this = (h, refl, q)
      more-alike d h q f e (older own) = let r = s.alike e own in (h, refl, r.2 ∙ f r.0 r.1)

      more-plays : (p : Player W) (d : DrawnPlan W) → Plays side p i.drawn i.laid (carrying i.fabric)
          → Plays side p (d ∷ i.drawn) i.laid (carrying i.fabric)
      more-plays nobody d h = tt
      more-plays (steady p t e) d h =
          record { own = older h.own; ever = h.ever; numbers = h.numbers; within = h.within; carries-tree = h.carries-tree }
      more-plays (between b t u e) d h = record {
        own = older h.own;
        ever = h.ever;
        ahead = h.ahead;
        behind = h.behind;
        from-within = h.from-within;
        to-within = h.to-within;
        joins-to = h.joins-to;
        cancels-to = h.cancels-to;
      }

      draw-keeps : (g : Network W) (batch : List (Change W)) (start : List ℕ) (entries : List (ℕ × ℕ)) (w : ℕ) → i.book ≡ Some g
          → draw_fault None g.n g.ends g.links batch (length start) (length entries) w ≡ None
          → Sound side carrying (drew i (after g batch) (drawn_from side g batch start entries))
      draw-keeps g batch start entries w e h =
          let a = s.accepted g e in
          let d = drawn_from side g batch start entries in
          let same : (k : Network W) → i.book ≡ Some k → k.ends ≡ g.ends = λ k q. ap (λ z. z.ends) (some_is (sym q ∙ e)) in
          record {
            accepted = λ k q. subst Accepted (some_is q) (all-accepted g a batch (length start) (length entries) w h);
            valid = more-valid d (drawn-valid g a batch start entries w h);
            alike = more-alike d (after g batch) refl same;
            plays = more-plays i.player d s.plays;
            loopless = λ l.
                let r = s.loopless l in
                (after g batch, refl, subst (λ (es : List Ends). LoopFree (carried es (carrying i.fabric))) (same r.0 r.1) r.2);
          }

    -- Every call keeps an installation sound.
    keeps : {i j : Installation W F} {q : Request W} {a : Answer} → Sound side carrying i → Step side carrying i q a j → Sound side carrying j
    keeps s (open-granted g t w e h) = open-keeps s g e (open-accepts g t w h)
    keeps s (open-refused g t w f h) = s
    keeps s (draw-granted g batch start entries w e h) = draw-keeps s g batch start entries w e h
    keeps s (draw-refused g batch start entries w f e h) = s
    keeps s (lay-granted d p f own e h) = lay-keeps s d p f own h
    keeps {i} s (lay-refused q e f h) = stays s f i.player s.plays h.1
    keeps s (forwards p t d r f e h) = forward-keeps s p t d r f e h
    keeps s (backwards p t d r f e h) = backward-keeps s p t d r f e h
    keeps s (joins b t u d r f e h) = join-keeps s b t u d r f e h
    keeps s (cancels b t u d r f e h) = cancel-keeps s b t u d r f e h
    keeps s (abandons b t u d e) = leaves s
    keeps s (finishes p t d e) = leaves s

    new-sound : (f : F) → Sound side carrying (new f)
    new-sound f = record {
      accepted = λ g e. absurd (none-some None g refl e);
      valid = λ d own. absurd (not-one own);
      alike = λ d own. absurd (not-one own);
      plays = tt;
      loopless = λ l. absurd (both_ways false refl l);
    }

    all-run : {i j : Installation W F} → Sound side carrying i → Runs side carrying i j → Sound side carrying j
    all-run s none = s
    all-run s (then r x) = keeps (all-run s r) x

    reached : {i : Installation W F} → Reached side carrying i → Sound side carrying i
    reached r = all-run (new-sound r.0) r.1

    stands_of : {i : Installation W F} → Sound side carrying i → Stands side carrying i
    stands_of {i} s = record {
      steady-tree = λ p t d e.
          let k = steady-of s p t d e in
          subst (λ (c : List Bool). CarriesLeastTree side (moment d t) c) (sym k.carries-tree)
          (tree-carried side o (moment d t) ((s.valid d k.own).moments t));
      steady-count = λ p t d e. let k = steady-of s p t d e in (ap (λ r. r.t) k.numbers, k.within);
      no_loop = s.loopless;
      entry-names = λ d own t c h n.
          let v = s.valid d own in
          rw (v.entries t h) (entry-names side o d.found d.batch v.moments t c h (λ z. n (v.entries t h ∙ z)));
      work-count = λ d own. (s.valid d own).counted;
      work-bound = λ d own l p. rw (s.valid d own).counted (least-bound side o d.found d.batch l p);
    }

    pub never-broken : NeverBroken side carrying
    never-broken = record {
      stands = λ i r. stands_of (reached r);
      differs = λ i j ri rj p q t d ei ej.
          let si = reached ri in
          let ki = steady-of si p t d ei in
          let kj = steady-of (reached rj) q (t + 1) d ej in
          let h : t < length d.batch = let w = kj.within in omega arith in
          subst (λ (c : List Bool). Exchanged (entry d.sheet t).0 (entry d.sheet t).1 c (carrying j.fabric)) (sym ki.carries-tree)
          (subst (λ (c : List Bool). Exchanged (entry d.sheet t).0 (entry d.sheet t).1 (tree side d t) c) (sym kj.carries-tree)
          (trees-exchanged d (si.valid d ki.own) t h));
    }
