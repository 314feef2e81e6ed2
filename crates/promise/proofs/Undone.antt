-- A change, made or taken back, while nothing else touches the fabric.
use Rattle.std.proofs.Common.{◌≡◌, ℕ, ◌+◌, ◌-◌, Bool, false, eqb, List, None, Ok, Err, Result, sym, refl, ap, ◌∙◌, subst, inl, inr, arith}
use Rattle.std.proofs.lemmas.Bool.{ne_eqb, cond-false}
use Rattle.player.specs.declared.states.Steady.{Steady}
use Rattle.player.specs.declared.states.Between.{Between}
use Rattle.player.specs.declared.states.Kept.{Kept}
use Rattle.player.specs.Plan.{Sheet, entry}
use Rattle.player.specs.States.{Rest, rest, Way, way, unlike}
use Rattle.player.specs.Moves.{pair_fault, come_fault, dimmed, lit, forward_fault, backward_fault, onward, back, arrived, returned, Backwards, Joins, Cancels}
use Rattle.promise.specs.Undo.{Granted, Departs, Exchanged, JoinsExchange, DeparturesPart, CancelsUndo, BackwardsUndo, ChangesUndone}
use Rattle.player.proofs.Nones.{none-some}
use Rattle.promise.proofs.Exchanges.{may-join, may-cancel, may-return, parted, exchanged, cancelled, gone-again}

-- What a granted forward or backward tells.
record Departed (p : Rest) (c : List Bool) (w : Way) (d : List Bool) : Type 0 where
  pub free : pair_fault c w.leaving w.coming ≡ None
  pub from : returned w ≡ p
  pub gone : d ≡ dimmed c w.leaving

forward-free : (p : Rest) (s : Sheet) (c : List Bool) → forward_fault p s c ≡ None
    → (unlike p s ≡ false) × (pair_fault c (entry s p.t).0 (entry s p.t).1 ≡ None)
forward-free p s c f = (grind arith, grind arith)

backward-free : (p : Rest) (s : Sheet) (c : List Bool) → backward_fault p s c ≡ None
    → pair_fault c (entry s (p.t - 1)).1 (entry s (p.t - 1)).0 ≡ None
backward-free p s c f = grind arith

moved : (p : Rest) (c : List Bool) (v w : Way) (d : List Bool) → w ≡ v → pair_fault c v.leaving v.coming ≡ None → returned v ≡ p
    → d ≡ dimmed c w.leaving → Departed p c w d
moved p c v w d e f r g = record {
  free = ap (λ z. pair_fault c z.leaving z.coming) e ∙ f;
  from = ap returned e ∙ r;
  gone = g;
}

departed : (p : Rest) (s : Sheet) (c : List Bool) (b : Between) (d : List Bool) → Departs p s c b d → Departed p c (way b) d
departed p s c b d (inl f) = moved p c (onward p s) (way b) d f.1 (forward-free p s c f.0).1 refl f.2
departed p s c b d (inr f) = moved p c (back p s) (way b) d f.1 (backward-free p s c f.0) refl f.2

departures-part : DeparturesPart
departures-part p s c b d h =
    let m = departed p s c b d h in
    subst (λ z. Exchanged (way b).leaving 0 c z) (sym m.gone) (parted c (way b).leaving (way b).coming m.free)

-- Join and cancel after a departure.
module _ (p : Rest) (c : List Bool) (w : Way) (d : List Bool) (m : Departed p c w d) where
  join_free : come_fault d w.coming ≡ None
  join_free = ap (λ z. come_fault z w.coming) m.gone ∙ may-join c w.leaving w.coming m.free

  cancel-free : come_fault d w.leaving ≡ None
  cancel-free = ap (λ z. come_fault z w.leaving) m.gone ∙ may-cancel c w.leaving w.coming m.free

  joined : (r : Result Steady (Kept Between)) (e : List Bool) → Joins w d r e
      → Granted r (λ q. rest q ≡ arrived w) × (e ≡ lit (dimmed c w.leaving) w.coming)
  joined (Ok q) e j = (j.1, j.2 ∙ ap (λ z. lit z w.coming) m.gone)
  joined (Err k) e j = absurd (none-some _ _ join_free j.0)

  undone : (r : Result Steady (Kept Between)) (e : List Bool) → Cancels w d r e → Granted r (λ q. rest q ≡ p) × (e ≡ c)
  undone (Ok q) e j =
      (j.1 ∙ m.from, j.2 ∙ ap (λ z. lit z w.leaving) m.gone ∙ cancelled c w.leaving w.coming m.free)
  undone (Err k) e j = absurd (none-some _ _ cancel-free j.0)

weaken : {X Y : Type 0} (r : Result X Y) (P Q : X → Type 0) → ((x : X) → P x → Q x) → Granted r P → Granted r Q
weaken (Ok x) P Q f g = f x g
weaken (Err y) P Q f g = g

joins-exchange : JoinsExchange
joins-exchange p s c b d h r e j =
    let m = departed p s c b d h in
    let a = joined p c (way b) d m r e j in (
      weaken r (λ q. rest q ≡ arrived (way b)) (λ q. (rest q).t ≡ (way b).to) (λ q x. ap (λ z. z.t) x) a.0,
      subst (λ z. Exchanged (way b).leaving (way b).coming c z) (sym a.1) (exchanged c (way b).leaving (way b).coming m.free),
    )

cancels-undo : CancelsUndo
cancels-undo p s c b d h r e j = undone p c (way b) d (departed p s c b d h) r e j

-- Backward after forward and join.
module _ (p : Rest) (s : Sheet) (c : List Bool) (granted : forward_fault p s c ≡ None) where
  abbrev l : ℕ
  l = (entry s p.t).0

  abbrev x : ℕ
  x = (entry s p.t).1

  abbrev next : Rest
  next = arrived (onward p s)

  abbrev there : List Bool
  there = lit (dimmed c l) x

  free : pair_fault c l x ≡ None
  free = (forward-free p s c granted).1

  same-moment : p.t + 1 - 1 ≡ p.t
  same-moment = omega arith

  back-free : backward_fault next s there ≡ None
  back-free =
      cond-false (unlike p s) _ _ (forward-free p s c granted).0
      ∙ cond-false (eqb (p.t + 1) 0) _ _ (ne_eqb (p.t + 1) 0 (λ q. omega arith))
      ∙ ap (λ t. pair_fault there (entry s t).1 (entry s t).0) same-moment
      ∙ may-return c l x free

  abbrev home : Way
  home = record { n = p.n; m = p.m; k = p.k; t = p.t + 1; to = p.t; leaving = x; coming = l }

  back-home : back next s ≡ home
  back-home =
      ap (λ t. record { n = p.n; m = p.m; k = p.k; t = p.t + 1; to = t; leaving = (entry s t).1; coming = (entry s t).0 }) same-moment

  -- The player that backward gives, and its join.
  again : (w : Way) (f : List Bool) → w ≡ home → f ≡ dimmed there w.leaving
      → (o : Result Steady (Kept Between)) (g : List Bool) → Joins w f o g → Granted o (λ z. rest z ≡ p) × (g ≡ c)
  again w f e i o g j =
      let m : Departed (returned home) there w f = moved (returned home) there home w f e (may-return c l x free) refl i in
      let a = joined (returned home) there w f m o g j in
      let q : lit (dimmed there w.leaving) w.coming ≡ c =
      ap (λ v. lit (dimmed there v.leaving) v.coming) e ∙ ap (λ v. lit v l) (gone-again c l x free) ∙ cancelled c l x free in
      (weaken o (λ z. rest z ≡ arrived w) (λ z. rest z ≡ p) (λ z y. y ∙ ap arrived e) a.0, a.1 ∙ q)

  returns-home : (q : Rest) (e : List Bool) → q ≡ next → e ≡ there
      → (r : Result Between (Kept Steady)) (f : List Bool) → Backwards q s e r f
      → Granted r (λ a. (o : Result Steady (Kept Between)) (g : List Bool) → Joins (way a) f o g → Granted o (λ z. rest z ≡ p) × (g ≡ c))
  returns-home q e i j (Ok a) f h =
      again (way a) f (h.1 ∙ ap (λ v. back v s) i ∙ back-home) (h.2 ∙ ap (λ v. dimmed v (way a).leaving) j)
  returns-home q e i j (Err k) f h =
      absurd (none-some (backward_fault q s e) _ (ap (λ v. backward_fault v s e) i ∙ ap (backward_fault next s) j ∙ back-free) h.0)

backwards-undo : BackwardsUndo
backwards-undo p s c b d h q e j r f k =
    let i : rest q ≡ arrived (onward p s) = j.1 ∙ ap arrived h.1 in
    let v : e ≡ lit (dimmed c (entry s p.t).0) (entry s p.t).1 =
    j.2 ∙ ap (λ z. lit z (way b).coming) h.2 ∙ ap (λ w. lit (dimmed c w.leaving) w.coming) h.1 in
    returns-home p s c h.0 (rest q) e i v r f k

pub changes-undone : ChangesUndone
changes-undone = (departures-part, joins-exchange, cancels-undo, backwards-undo)
