-- The order of class weights.
use Rattle.std.specs.Prelude.{◌≡◌, ℕ, ◌<◌, ◌≤◌, cond, ◌⊎◌, ◌≢◌, nat_lt}
use Rattle.std.proofs.Common.{inl, inr, ⊎_elim, arith}
use Rattle.std.proofs.lemmas.Bool.{cases_order, cases_lt}
use Rattle.std.proofs.lemmas.Bool.Decides.{nat_tests}
use Rattle.weights.specs.declared.order.Side.{Side}
use Rattle.weights.specs.declared.order.Side.TheVariants.{Before, After}
use Rattle.weights.specs.Order.{compared}

abbrev sides : ℕ → ℕ → ℕ → ℕ → Side
sides a b c d = cond (nat_lt a c) Before (cond (nat_lt c a) After (compared b d))

later : (a b c d : ℕ) → a ≡ c → d < b → sides a b c d ≡ After
later a b c d e h = grind (arith, nat_tests)

above : (a b c d : ℕ) → c < a → sides a b c d ≡ After
above a b c d h = grind (arith, nat_tests)

not-later : (a b c d : ℕ) → (sides a b c d ≢ After) → (a < c) ⊎ ((a ≡ c) × (b ≤ d))
not-later a b c d h =
    ⊎_elim
    (λ e. ⊎_elim (λ lt. absurd (h (later a b c d e lt))) (λ le. inr (e, le)) (cases_lt d b))
    (λ o. ⊎_elim (λ lt. inl lt) (λ gt. absurd (h (above a b c d gt))) o)
    (cases_order a c)

before-not : (a b c d : ℕ) → (a < c) ⊎ ((a ≡ c) × (b ≤ d)) → sides a b c d ≢ After
before-not a b c d o e =
    ⊎_elim (λ h. grind (arith, nat_tests)) (λ h. grind (arith, nat_tests)) o

chain : (a b c d x y : ℕ) → (a < c) ⊎ ((a ≡ c) × (b ≤ d)) → (c < x) ⊎ ((c ≡ x) × (d ≤ y)) → (a < x) ⊎ ((a ≡ x) × (b ≤ y))
chain a b c d x y p q =
    ⊎_elim
    (λ h. ⊎_elim (λ k. inl (omega arith)) (λ k. inl (omega (arith, k.0))) q)
    (λ h. ⊎_elim (λ k. inl (omega (arith, h.0))) (λ k. inr (omega (arith, h.0, k.0), omega (arith, h.1, k.1))) q)
    p

pub passes_on : (a b c d x y : ℕ) → (sides a b c d ≢ After) → (sides c d x y ≢ After) → sides a b x y ≢ After
passes_on a b c d x y p q = before-not a b x y (chain a b c d x y (not-later a b c d p) (not-later c d x y q))
