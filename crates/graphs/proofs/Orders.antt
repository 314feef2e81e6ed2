-- Orders of link numbers.
use Rattle.std.proofs.Common.{ℕ, Bool, ltb, inl, inr, arith}
use Rattle.std.proofs.lemmas.Bool.{cases_order, cases_eq, cases_Bool, lt-ltb}
use Rattle.std.proofs.lemmas.Bool.Decides.{nat_tests}
use Rattle.graphs.specs.Forest.{Strict}
use Rattle.graphs.specs.Thin.{named_first}

-- By number.
pub strict-ltb : Strict ltb
strict-ltb = record {
  apart = λ j. grind (arith, nat_tests);
  chain = λ i j k h m. grind (arith, nat_tests);
  total = λ j k. elim (cases_order j k) [ inl e ↦ inr (inl e) | inr (inl h) ↦ inl (lt-ltb j k h) | inr (inr h) ↦ inr (inr (lt-ltb k j h)) ];
}

-- Named links first.
pub strict-named : (named : ℕ → Bool) (lt : ℕ → ℕ → Bool) → Strict lt → Strict (named_first named lt)
strict-named named lt o = record {
  apart = λ j. let a = o.apart j in grind (arith, nat_tests);
  chain = λ i j k h m. let c = o.chain i j k in grind (arith, nat_tests);
  total = λ j k. elim (cases_eq j k) [
    | inl e ↦ inr (inl e)
    | inr n ↦
        elim (cases_Bool (named_first named lt j k)) [
          | inl h ↦ inl h
          | inr h ↦ let t = o.total j k in inr (inr (grind (arith, nat_tests)))
        ]
  ];
}
