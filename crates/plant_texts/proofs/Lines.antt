-- A line that was read, written out again.
use Rattle.std.proofs.Common.{◌≡◌, ℕ, cond, eqb, List, [], ◌∷◌, ◌++◌, Some, None, Ok, codes, Option, sym, refl, ap, ◌∙◌, ⊎_elim, arith}
use Rattle.std.proofs.lemmas.List.{append-nil}
use Rattle.std.proofs.lemmas.Bool.{cases_Bool, eqb-true}
use Rattle.std.proofs.lemmas.Option.{same_Some}
use Rattle.std.specs.Option.{option_map}
use Rattle.network.specs.declared.types.Change.TheVariants as change
use Rattle.plant_lines.specs.declared.item.Item.{Item}
use Rattle.plant_lines.specs.declared.item.Item.TheVariants as item
use Rattle.plant_lines.specs.declared.item.Kind.TheVariants as kind
use Rattle.text_words.specs.declared.token.Letter.{Letter}
use Rattle.text_words.specs.declared.token.Letter.TheVariants.{Costs, Classes, Link, Set, Remove, Flip}
use Rattle.plant_lines.specs.Line.{before, numbers, only_of, item_of, item_from, shape, line_at}
use Rattle.text_words.specs.Letter.{letter_of, letter_word}
use Rattle.text_words.specs.Number.{numeral}
use Rattle.plan_lines.specs.Output.{spaced}
use Rattle.text_words.specs.Split.{parts}
use Rattle.plant_texts.specs.Laws.{joined_by}
use Rattle.plant_texts.proofs.Writing.{parts_join, read-write}

-- what a value was mapped from
mapped-some : {X Y : Type 0} (f : X → Y) (o : Option X) (y : Y) → option_map f o ≡ Some y → (x : X) × (o ≡ Some x) × (f x ≡ y)
mapped-some f None y h = cc
mapped-some f (Some x) y h = (x, refl, same_Some (f x) y h)

-- the character of a letter
abbrev code : Letter → ℕ
code Costs = 78
code Classes = 80
code Link = 76
code Set = 83
code Remove = 82
code Flip = 84

-- a test that passed gives its letter; else the letter comes from the tests after it
letter-step : (c d : ℕ) (l : Letter) (o : Option Letter) (k : Letter) → code l ≡ d → (o ≡ Some k → c ≡ code k) → cond (eqb c d) (Some l) o ≡ Some k → c ≡ code k
letter-step c d l o k is next h =
    ⊎_elim
    (λ t. eqb-true c d t ∙ sym is ∙ ap code (same_Some l k (ap (λ b. cond b (Some l) o) (sym t) ∙ h)))
    (λ f. next (ap (λ b. cond b (Some l) o) (sym f) ∙ h))
    (cases_Bool (eqb c d))

letter-code : (c : ℕ) (k : Letter) → letter_of c ≡ Some k → c ≡ code k
letter-code c k =
    letter-step c 78 Costs _ k refl (letter-step c 80 Classes _ k refl (letter-step c 76 Link _ k refl (letter-step c 83 Set _ k refl (letter-step c 82 Remove _ k refl (letter-step c 84 Flip _ k refl (λ h. cc))))))

letter-word : (w : List ℕ) (k : Letter) → letter_word w ≡ Some k → w ≡ code k ∷ []
letter-word [] k h = cc
letter-word (b ∷ []) k h = ap (λ c. c ∷ []) (letter-code b k h)
letter-word (b ∷ c ∷ bs) k h = cc

-- words, each after a space
abbrev after : List (List ℕ) → List ℕ
after [] = []
after (w ∷ ws) = codes " " ++ (w ++ after ws)

joined-after : (w : List ℕ) (ws : List (List ℕ)) → joined_by 32 (w ∷ ws) ≡ w ++ after ws
joined-after w [] = sym (append-nil w)
joined-after w (v ∷ vs) = ap (λ bs. w ++ 32 ∷ bs) (joined-after v vs)

before-some : (o : Option ℕ) (p : Option (List ℕ)) (ns : List ℕ) → before o p ≡ Some ns → (n : ℕ) × (ms : List ℕ) × (o ≡ Some n) × (p ≡ Some ms) × (n ∷ ms ≡ ns)
before-some None p ns h = cc
before-some (Some n) None ns h = cc
before-some (Some n) (Some ms) ns h = (n, ms, refl, refl, same_Some (n ∷ ms) ns h)

numbers_after : (ws : List (List ℕ)) (ns : List ℕ) → numbers ws ≡ Some ns → spaced ns ≡ after ws
unfolding numbers
numbers_after [] ns h = ap spaced (sym (same_Some [] ns h))
numbers_after (w ∷ ws) ns h =
    let b = before-some (numeral w) (numbers ws) ns h in
    ap spaced (sym b.4) ∙ ap (λ bs. codes " " ++ (bs ++ spaced b.1)) (read-write w b.0 b.2) ∙ ap (λ bs. codes " " ++ (w ++ bs)) (numbers_after ws b.1 b.3)

only-some : (ns : List ℕ) (n : ℕ) → only_of ns ≡ Some n → ns ≡ n ∷ []
only-some [] n h = cc
only-some (m ∷ []) n h = ap (λ k. k ∷ []) (same_Some m n h)
only-some (m ∷ k ∷ ns) n h = cc

module _ {W : Type 0} (made : List ℕ → Option W) (spelled : W → List ℕ) (back : (ns : List ℕ) (w : W) → made ns ≡ Some w → spelled w ≡ ns) where
  -- the line of an item, without its end
  abbrev pub line_for : Item W → List ℕ
  line_for (item.Head kind.Cost n) = 78 ∷ spaced (n ∷ [])
  line_for (item.Head kind.Class n) = 80 ∷ spaced (n ∷ [])
  line_for (item.Link e w) = 76 ∷ spaced (e.a.0 ∷ e.b.0 ∷ spelled w)
  line_for (item.Change (change.Set k w)) = 83 ∷ spaced (k ∷ spelled w)
  line_for (item.Change (change.Remove k)) = 82 ∷ spaced (k ∷ [])
  line_for (item.Change (change.Flip k)) = 84 ∷ spaced (k ∷ [])

  only-line : (f : ℕ → Item W) (c : ℕ) (ns : List ℕ) (x : Item W) → ((n : ℕ) → line_for (f n) ≡ c ∷ spaced (n ∷ [])) → option_map f (only_of ns) ≡ Some x → line_for x ≡ c ∷ spaced ns
  only-line f c ns x is h =
      let m = mapped-some f (only_of ns) x h in
      ap line_for (sym m.2) ∙ is m.0 ∙ ap (λ ms. c ∷ spaced ms) (sym (only-some ns m.0 m.1))

  item-line : (k : Letter) (ns : List ℕ) (x : Item W) → item_of made k ns ≡ Some x → line_for x ≡ code k ∷ spaced ns
  item-line Costs ns x h = only-line (item.Head kind.Cost) 78 ns x (λ n. refl) h
  item-line Classes ns x h = only-line (item.Head kind.Class) 80 ns x (λ n. refl) h
  item-line Link [] x h = cc
  item-line Link (a ∷ []) x h = cc
  item-line Link (a ∷ b ∷ ns) x h =
      let m = mapped-some (item.Link _) (made ns) x h in
      ap line_for (sym m.2) ∙ ap (λ ms. 76 ∷ spaced (a ∷ b ∷ ms)) (back ns m.0 m.1)
  item-line Set [] x h = cc
  item-line Set (k ∷ ns) x h =
      let m = mapped-some (λ w. item.Change (change.Set k w)) (made ns) x h in
      ap line_for (sym m.2) ∙ ap (λ ms. 83 ∷ spaced (k ∷ ms)) (back ns m.0 m.1)
  item-line Remove ns x h = only-line (λ k. item.Change (change.Remove k)) 82 ns x (λ n. refl) h
  item-line Flip ns x h = only-line (λ k. item.Change (change.Flip k)) 84 ns x (λ n. refl) h

  from_some : (o : Option Letter) (p : Option (List ℕ)) (x : Item W) → item_from made o p ≡ Some x → (k : Letter) × (ns : List ℕ) × (o ≡ Some k) × (p ≡ Some ns) × (item_of made k ns ≡ Some x)
  from_some None p x h = cc
  from_some (Some k) None x h = cc
  from_some (Some k) (Some ns) x h = (k, ns, refl, refl, h)

  shape-line : (ws : List (List ℕ)) (x : Item W) → shape made ws ≡ Some x → line_for x ≡ joined_by 32 ws
  shape-line [] x h = cc
  shape-line (w ∷ ws) x h =
      let s = from_some (letter_word w) (numbers ws) x h in
      item-line s.0 s.1 x s.4 ∙ ap (λ bs. code s.0 ∷ bs) (numbers_after ws s.1 s.3) ∙ ap (λ v. v ++ after ws) (sym (letter-word w s.0 s.2)) ∙ sym (joined-after w ws)

  pub line-back : (i : ℕ) (l : List ℕ) (x : Item W) → line_at made i l ≡ Ok x → line_for x ≡ l
  line-back i l x h =
      let told : shape made (parts 32 l) ≡ Some x = grind arith in
      shape-line (parts 32 l) x told ∙ parts_join 32 l
