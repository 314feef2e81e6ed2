-- The number that digits write.
use Rattle.std.proofs.Common.{◌≡◌, ℕ, ◌+◌, ◌-◌, ◌*◌, ◌<◌, ◌≤◌, true, false, List, [], ◌∷◌, length, get_or, drop, cond, Some, None, refl, ap, ◌∙◌, arith}
use Rattle.std.proofs.lemmas.List.{at_drop_more, at_drop_all}
use Rattle.std.proofs.lemmas.Bool.{cond-true, cond-false, cond_both, lt-ltb, le-ltb}
use Rattle.std.proofs.lemmas.Bool.Decides.{nat_tests}
use Rattle.std.proofs.lemmas.Str.{digit_value_digit}
use Rattle.std.proofs.lemmas.Str.Parse.{digit_from_value}
use Rattle.std.specs.Char.{is_ascii_digit, digit_value}
use Rattle.text_words.specs.Number.{value_from}

-- The byte b at place i of the digits bs, after the number n.
module _ (n : ℕ) (bs : List ℕ) (i b : ℕ) (l : i < length bs) (at : b ≡ get_or bs i 0) where
  value_step : value_from n (drop i bs) ≡ cond (is_ascii_digit b) (value_from (n * 10 + (b - 48)) (drop (i + 1) bs)) None
  unfolding value_from
  value_step = at_drop_more (value_from n) bs i 0 l ∙ rw at refl

  pub value-digit : (d : ℕ) → (digit_value b < 10) × (d ≡ digit_value b) → value_from n (drop i bs) ≡ value_from (n * 10 + d) (drop (i + 1) bs)
  value-digit d h =
      let range = digit_from_value b h.0 in
      let test : is_ascii_digit b ≡ true = grind (arith, nat_tests) in
      let same : b - 48 ≡ d = omega (arith, digit_value_digit b range) in
      value_step ∙ cond-true _ _ _ test ∙ ap (λ k. value_from (n * 10 + k) (drop (i + 1) bs)) same

  pub value-other : (48 ≤ b → b ≤ 57 → 58 ≤ b) → value_from n (drop i bs) ≡ None
  value-other h =
      let test : is_ascii_digit b ≡ false = grind (arith, nat_tests) in
      value_step ∙ cond-false _ _ _ test

pub value-end : (n : ℕ) (bs : List ℕ) (i : ℕ) → length bs ≤ i → n < 4294967296 → value_from n (drop i bs) ≡ Some n
unfolding value_from
value-end n bs i l h = at_drop_all (value_from n) bs i l ∙ cond-true _ _ _ (lt-ltb n 4294967296 h)

pub value-large : (n : ℕ) (bs : List ℕ) → 4294967296 ≤ n → value_from n bs ≡ None
unfolding value_from
value-large n [] h = cond-false _ _ _ (le-ltb n 4294967296 h)
value-large n (b ∷ bs) h = cond_both (is_ascii_digit b) _ _ (λ o. o ≡ None) (λ _. value-large (n * 10 + (b - 48)) bs (omega arith)) (λ _. refl)
