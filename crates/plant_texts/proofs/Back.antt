-- A text that was read, written out again.
use Rattle.std.proofs.Common.{◌≡◌, ℕ, suc, ◌+◌, Bool, true, false, cond, ltb, leb, List, [], ◌∷◌, ◌++◌, length, Some, Ok, Err, Option, Result, sym, refl, ap, ◌∙◌, subst, arith}
use Rattle.std.proofs.lemmas.List.{append-nil, append_assoc, length_push}
use Rattle.std.proofs.lemmas.Option.{same_Some}
use Rattle.faults.specs.declared.TextFault.{TextFault}
use Rattle.faults.specs.declared.TextFault.TheVariants.{OutOfPlace, OverCount}
use Rattle.network.specs.declared.types.Change.{Change}
use Rattle.network.specs.declared.types.Change.TheVariants as change
use Rattle.network.specs.declared.types.Ends.{Ends}
use Rattle.network.specs.declared.types.LinkState.{LinkState}
use Rattle.weights.specs.declared.class.Class.{Class}
use Rattle.weights.specs.declared.cost.Cost.{Cost}
use Rattle.weights.specs.Made.{cost_from, class_from, graded}
use Rattle.plant_lines.specs.declared.item.Item.{Item}
use Rattle.plant_lines.specs.declared.item.Item.TheVariants as item
use Rattle.plant_lines.specs.declared.item.Kind.{Kind}
use Rattle.plant_lines.specs.declared.item.Kind.TheVariants as kind
use Rattle.plant_tables.specs.File.{File, then, none, blank, with_link, with_change, placed}
use Rattle.plant_text.specs.Body.{body}
use Rattle.plant_tables.specs.Limits.{max_bytes}
use Rattle.plant_lines.specs.Line.{line_at}
use Rattle.plant_text.specs.Plant.{Whole, costs, classes, lacks_head, lines, opened, headed}
use Rattle.text_words.specs.Split.{parts}
use Rattle.plant_texts.specs.Laws.{joined_by, ReadsBack}
use Rattle.plant_texts.specs.Written.{row, link_rows, change_row, change_rows, rows, cost_spelled, class_spelled, written}
use Rattle.plant_texts.proofs.Lines.{line_for, line-back}
use Rattle.plant_texts.proofs.Writing.{parts_join}

ok_same : {X : Type 0} (x y : X) → ◌≡◌ {A = Result X TextFault} (Ok x) (Ok y) → x ≡ y
ok_same x y h = cc

-- both steps of a granted sequence are granted
then_ok : {X Y : Type 0} (r : Result X TextFault) (f : X → Result Y TextFault) (y : Y) → then r f ≡ Ok y → (x : X) × (r ≡ Ok x) × (f x ≡ Ok y)
then_ok (Ok x) f y h = (x, refl, h)
then_ok (Err e) f y h = cc

-- a test that a grant has passed
cond-ok : {X : Type 0} (b : Bool) (r : Result X TextFault) (e : TextFault) (x : X) → cond b r (Err e) ≡ Ok x → (b ≡ true) × (r ≡ Ok x)
cond-ok true r e x h = (refl, h)
cond-ok false r e x h = cc

cond-not : {X : Type 0} (b : Bool) (r : Result X TextFault) (e : TextFault) (x : X) → cond b (Err e) r ≡ Ok x → r ≡ Ok x
cond-not true r e x h = cc
cond-not false r e x h = h

none-nil : {X : Type 0} (xs : List X) → none xs ≡ true → xs ≡ []
none-nil [] h = refl
none-nil (x ∷ xs) h = cc

module _ {W : Type 0} (made : List ℕ → Option W) (spelled : W → List ℕ) (back : (ns : List ℕ) (w : W) → made ns ≡ Some w → spelled w ≡ ns) where
  -- g is f, and the bytes bs more
  record Grown (f : File W) (bs : List ℕ) (g : File W) : Type 0 where
    pub same : g.n ≡ f.n
    pub even : length g.ends ≡ length g.links
    pub more : rows spelled g ≡ rows spelled f ++ bs

  links-push : (es : List Ends) (ls : List (LinkState W)) (e : Ends) (l : LinkState W) → length es ≡ length ls → link_rows spelled (es ++ e ∷ []) (ls ++ l ∷ []) ≡ link_rows spelled es ls ++ link_rows spelled (e ∷ []) (l ∷ [])
  links-push [] [] e l h = refl
  links-push [] (k ∷ ls) e l h = absurd (omega arith)
  links-push (d ∷ es) [] e l h = absurd (omega arith)
  links-push (d ∷ es) (k ∷ ls) e l h =
      let first = row 76 (d.a.0 ∷ d.b.0 ∷ spelled k.weight) in
      ap (λ bs. first ++ bs) (links-push es ls e l (omega arith)) ∙ sym (append_assoc first (link_rows spelled es ls) (link_rows spelled (e ∷ []) (l ∷ [])))

  changes-push : (cs : List (Change W)) (c : Change W) → change_rows spelled (cs ++ c ∷ []) ≡ change_rows spelled cs ++ change_row spelled c
  changes-push [] c = append-nil (change_row spelled c)
  changes-push (d ∷ cs) c = ap (λ bs. change_row spelled d ++ bs) (changes-push cs c) ∙ sym (append_assoc (change_row spelled d) (change_rows spelled cs) (change_row spelled c))

  link-more : (f : File W) (i : ℕ) (e : Ends) (w : W) → length f.ends ≡ length f.links → f.changes ≡ [] → rows spelled (with_link f i e w) ≡ rows spelled f ++ row 76 (e.a.0 ∷ e.b.0 ∷ spelled w)
  link-more f i e w h z =
      let one = row 76 (e.a.0 ∷ e.b.0 ∷ spelled w) in
      let all = link_rows spelled f.ends f.links in
      ap (λ cs. link_rows spelled (with_link f i e w).ends (with_link f i e w).links ++ change_rows spelled cs) z ∙ append-nil _ ∙ links-push f.ends f.links e (record { weight = w; present = true }) h ∙ ap (λ bs. all ++ bs) (append-nil one) ∙ ap (λ bs. bs ++ one) (sym (append-nil all)) ∙ ap (λ cs. (all ++ change_rows spelled cs) ++ one) (sym z)

  change-line : (c : Change W) → change_row spelled c ≡ line_for made spelled back (item.Change c) ++ 10 ∷ []
  change-line (change.Set k w) = refl
  change-line (change.Remove k) = refl
  change-line (change.Flip k) = refl

  placed-more : (f : File W) (i : ℕ) (x : Item W) (g : File W) → length f.ends ≡ length f.links → placed f i x ≡ Ok g → Grown f (line_for made spelled back x ++ 10 ∷ []) g
  placed-more f i (item.Head k n) g h p = cc
  placed-more f i (item.Link e w) g h p =
      let a = cond-ok (none f.changes) _ _ g p in
      let b = cond-ok (ltb (length f.links) 64) _ _ g a.1 in
      let is = ok_same (with_link f i e w) g b.1 in
      subst (Grown f (line_for made spelled back (item.Link e w) ++ 10 ∷ [])) is (record {
        same = refl;
        even = length_push f.ends e ∙ ap (λ k. k + 1) h ∙ sym (length_push f.links _);
        more = link-more f i e w h (none-nil f.changes a.0);
      })
  placed-more f i (item.Change c) g h p =
      let b = cond-ok (ltb (length f.changes) 128) _ _ g p in
      let is = ok_same (with_change f i c) g b.1 in
      subst (Grown f (line_for made spelled back (item.Change c) ++ 10 ∷ [])) is (record {
        same = refl;
        even = h;
        more = ap (λ bs. link_rows spelled f.ends f.links ++ bs) (changes-push f.changes c) ∙ sym (append_assoc (link_rows spelled f.ends f.links) (change_rows spelled f.changes) (change_row spelled c)) ∙ ap (λ bs. rows spelled f ++ bs) (change-line c);
      })

  body-grown : (f : File W) (i : ℕ) (ls : List (List ℕ)) (g : File W) → length f.ends ≡ length f.links → body made f i ls ≡ Ok g → Grown f (joined_by 10 ls) g
  unfolding body
  body-grown f i [] g h p = subst (Grown f []) (ok_same f g p) (record { same = refl; even = h; more = sym (append-nil (rows spelled f)) })
  body-grown f i (l ∷ []) g h p =
      let a = cond-ok (none l) _ _ g p in
      let z = none-nil l a.0 in
      subst (Grown f l) (ok_same f g a.1) (record { same = refl; even = h; more = sym (append-nil (rows spelled f)) ∙ ap (λ bs. rows spelled f ++ bs) (sym z) })
  body-grown f i (l ∷ m ∷ ls) g h p =
      let a = then_ok (then (line_at made i l) (placed f i)) (λ d. body made d (suc i) (m ∷ ls)) g p in
      let b = then_ok (line_at made i l) (placed f i) a.0 a.1 in
      let one = placed-more f i b.0 a.0 h b.2 in
      let rest = body-grown a.0 (suc i) (m ∷ ls) g one.even a.2 in
      let is : line_for made spelled back b.0 ≡ l = line-back made spelled back i l b.0 b.1 in
      let tail = joined_by 10 (m ∷ ls) in
      record {
        same = rest.same ∙ one.same;
        even = rest.even;
        more = rest.more ∙ ap (λ bs. bs ++ tail) (one.more ∙ ap (λ v. rows spelled f ++ (v ++ 10 ∷ [])) is) ∙ append_assoc (rows spelled f) (l ++ 10 ∷ []) tail ∙ ap (λ bs. rows spelled f ++ bs) (append_assoc l (10 ∷ []) tail);
      }

cost-back : (ns : List ℕ) (w : Cost) → cost_from ns ≡ Some w → cost_spelled w ≡ ns
cost-back [] w h = cc
cost-back (x ∷ []) w h = ap cost_spelled (sym (same_Some _ w h))
cost-back (x ∷ y ∷ xs) w h = cc

graded-back : (k c : ℕ) (t : Bool) (e : leb k 7 ≡ t) (w : Class) → graded k c t e ≡ Some w → class_spelled w ≡ k ∷ c ∷ []
graded-back k c true e w h = ap class_spelled (sym (same_Some _ w h))
graded-back k c false e w h = cc

class_back : (ns : List ℕ) (w : Class) → class_from ns ≡ Some w → class_spelled w ≡ ns
class_back [] w h = cc
class_back (k ∷ []) w h = cc
class_back (k ∷ c ∷ []) w h = graded-back k c (leb k 7) refl w h
class_back (k ∷ c ∷ x ∷ xs) w h = cc

-- the first line, its end, and the lines after it
headed-back : (ls : List (List ℕ)) (k : Kind) (n : ℕ) (p : Whole) → headed ls k n ≡ Ok p → written p ≡ (line_for cost_from cost_spelled cost-back (item.Head k n) ++ 10 ∷ []) ++ joined_by 10 ls
headed-back ls kind.Cost n p h =
    let a = then_ok (body cost_from (blank n) 2 ls) (λ f. Ok (costs f)) p (cond-not _ _ _ p h) in
    let g = body-grown cost_from cost_spelled cost-back (blank n) 2 ls a.0 refl a.1 in
    ap written (sym (ok_same (costs a.0) p a.2)) ∙ ap (λ m. row 78 (m ∷ []) ++ rows cost_spelled a.0) g.same ∙ ap (λ bs. row 78 (n ∷ []) ++ bs) g.more
headed-back ls kind.Class n p h =
    let a = then_ok (body class_from (blank n) 2 ls) (λ f. Ok (classes f)) p (cond-not _ _ _ p h) in
    let g = body-grown class_from class_spelled class_back (blank n) 2 ls a.0 refl a.1 in
    ap written (sym (ok_same (classes a.0) p a.2)) ∙ ap (λ m. row 80 (m ∷ []) ++ rows class_spelled a.0) g.same ∙ ap (λ bs. row 80 (n ∷ []) ++ bs) g.more

opened-back : (ls : List (List ℕ)) (x : Item Cost) (p : Whole) → opened ls x ≡ Ok p → written p ≡ (line_for cost_from cost_spelled cost-back x ++ 10 ∷ []) ++ joined_by 10 ls
opened-back ls (item.Head k n) p h = headed-back ls k n p h
opened-back ls (item.Link e w) p h = cc
opened-back ls (item.Change c) p h = cc

lines-back : (ls : List (List ℕ)) (p : Whole) → lines ls ≡ Ok p → written p ≡ joined_by 10 ls
lines-back [] p h = cc
lines-back (l ∷ []) p h = cc
lines-back (l ∷ m ∷ ls) p h =
    let a = then_ok (line_at cost_from 1 l) (opened (m ∷ ls)) p h in
    let is : line_for cost_from cost_spelled cost-back a.0 ≡ l = line-back cost_from cost_spelled cost-back 1 l a.0 a.1 in
    let tail = joined_by 10 (m ∷ ls) in
    opened-back (m ∷ ls) a.0 p a.2 ∙ ap (λ v. (v ++ 10 ∷ []) ++ tail) is ∙ append_assoc l (10 ∷ []) tail

pub reads-back : ReadsBack
reads-back text plant h =
    let has = cond-not (ltb max_bytes (length text)) (cond (lacks_head text) (Err (OutOfPlace 1)) (lines (parts 10 text))) (OverCount 0) plant h in
    let all = cond-not (lacks_head text) (lines (parts 10 text)) (OutOfPlace 1) plant has in
    lines-back (parts 10 text) plant all ∙ parts_join 10 text
