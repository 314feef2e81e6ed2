-- A port table's invariant is a fact: it holds in one way at most, so it comes out of a truncation.
use Rattle.std.proofs.Common.{◌≡◌, ℕ, ◌+◌, ◌*◌, ◌<◌, ◌≤◌, Bool, true, false, List, [], ◌∷◌, length, refl}
use mathlib.Core.HLevel.{Π_prop, ×_prop, ×₃_prop}
use mathlib.Core.Logic.{∥∥₁_elim}
use denote.Struct.Props.{props}
use Rattle.port_layout.specs.Chains.{cell, chain, has, Spells, Once, Kept}
use Rattle.port_layout.specs.Words.{word}
use Rattle.port_layout.specs.Ports.{ends_of, second_head, owner, chain_of, linked, Joins, Table}
use Rattle.network.specs.declared.types.Ends.{Ends}

same_number : (a b : ℕ) → IsProp (a ≡ b)
same_number a b = hlevel props

same_flag : (a b : Bool) → IsProp (a ≡ b)
same_flag a b = hlevel props

at_most : (a b : ℕ) → IsProp (a ≤ b)
at_most a b = hlevel props

none : IsProp ⊥
none = hlevel props

one : IsProp (Unit {0})
one a b = refl

spells-fact : (n : ℕ) (w : ℕ → ℕ) (rs : List ℕ) (c : ℕ) → IsProp (Spells n w c rs)
spells-fact n w [] c = same_number (w c) 0
spells-fact n w (r ∷ rs) c = ×₃_prop (same_number (w c) r) (hlevel props) (spells-fact n w rs (cell n r))

once-fact : (rs : List ℕ) → IsProp (Once rs)
once-fact [] = one
once-fact (x ∷ xs) = ×_prop (same_flag (has x xs) false) (once-fact xs)

module _ (n m : ℕ) (own w : ℕ → ℕ) (K : ℕ → List ℕ) where
  small-fact : IsProp ((c : ℕ) → c < n + m → w c ≤ m)
  small-fact = hlevel props

  own-fact : IsProp ((v r : ℕ) → v < n → has r (K v) ≡ true → (r ≤ m) × (own r ≡ v))
  own-fact = Π_prop (λ v. Π_prop (λ r. Π_prop (λ _. Π_prop (λ _. ×_prop (at_most r m) (same_number (own r) v)))))

  loose-fact : IsProp ((r : ℕ) → 0 < r → r ≤ m → has r (K (own r)) ≡ false → w (cell n r) ≡ 0)
  loose-fact = Π_prop (λ r. Π_prop (λ _. Π_prop (λ _. Π_prop (λ _. same_number (w (cell n r)) 0))))

  pub kept-fact : IsProp (Kept n m own w K)
  kept-fact a b = λ i. record {
    small = small-fact a.small b.small i;
    spelled = λ v h. spells-fact n w (K v) v (a.spelled v h) (b.spelled v h) i;
    once = λ v h. once-fact (K v) (a.once v h) (b.once v h) i;
    own = own-fact a.own b.own i;
    loose = loose-fact a.loose b.loose i;
  }

joins-fact : (n : ℕ) (e : Ends) → IsProp (Joins n e)
joins-fact n e a b = λ i. record {
  first-is = at_most _ _ a.first-is b.first-is i;
  first-in = at_most _ _ a.first-in b.first-in i;
  second-is = at_most _ _ a.second-is b.second-is i;
  second-in = at_most _ _ a.second-in b.second-in i;
  apart = λ s. none (a.apart s) (b.apart s) i;
}

module _ (n : ℕ) (es : List Ends) (bs : List ℕ) where
  pub table-fact : IsProp (Table n es bs)
  table-fact a b = λ i. record {
    nodes = at_most _ _ a.nodes b.nodes i;
    links = at_most _ _ a.links b.links i;
    room = at_most _ _ a.room b.room i;
    joins = λ j h. joins-fact n (ends_of es j) (a.joins j h) (b.joins j h) i;
    sound = kept-fact n (2 * length es) (owner es) (word bs) (chain n (word bs) (2 * length es)) a.sound b.sound i;
    paired = λ j h. same_flag (linked n es bs j) (has (2 * j + 2) (chain_of n es bs (second_head es j))) (a.paired j h) (b.paired j h) i;
  }

  pub table_of : ∥ Table n es bs ∥₁ → Table n es bs
  table_of t = ∥∥₁_elim t table-fact (λ x. x)
