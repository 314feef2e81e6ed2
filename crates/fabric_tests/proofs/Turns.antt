-- Turning one bit turns one flag.
use Rattle.std.proofs.Common.{◌≡◌, ℕ, zero, suc, ◌+◌, ◌*◌, ◌/◌, ◌%◌, ◌^◌, ◌<◌, Bool, true, false, not, eqb, List, length, get_or, set, None, sym, refl, ap, ◌∙◌, subst, inl, inr, arith}
use lib.Bits.{bit_xor}
use Rattle.std.specs.Int.{bit_at}
use Rattle.std.proofs.lemmas.Nat.Bits.{bit_at_xor, bit_at-pow_same, bit_at-pow_other, bit_at-zero, bit_at-lt}
use Rattle.std.proofs.lemmas.List.FromFn.{length-map-range_with_len, get_or-map-range_with_len}
use Rattle.std.proofs.lemmas.List.{length-set, get_or-set_same, get_or-set_other, ext_get_or}
use Rattle.std.proofs.lemmas.Bool.{cases_eq}
use Rattle.std.proofs.lemmas.Bool.Decides.{nat_tests}
use Rattle.fabrics.specs.Blank.{blanked, Begins}
use Rattle.fabrics.proofs.Blanks.{begins, blank-at}
use Rattle.fabric_tests.specs.Bits.{bit, flag, flags, turned, words_for, bits_fault}

flip : (d : ℕ) → d < 2 → eqb ((d + 1) % 2) 1 ≡ not (eqb d 1)
flip zero h = refl
flip (suc zero) h = refl
flip (suc (suc d)) h = absurd (omega arith)

turn-self : (w j : ℕ) → bit (bit_xor w (2 ^ j)) j ≡ not (bit w j)
turn-self w j = grind (arith, nat_tests, bit_at_xor w (2 ^ j) j, bit_at-pow_same j, flip (bit_at w j) (bit_at-lt w j))

turn-other : (w j i : ℕ) → (i ≡ j → ⊥) → bit (bit_xor w (2 ^ j)) i ≡ bit w i
turn-other w j i ne = grind (arith, nat_tests, bit_at_xor w (2 ^ j) i, bit_at-pow_other j i ne, bit_at-lt w i)

not-not : (b : Bool) → not (not b) ≡ b
not-not true = refl
not-not false = refl

module _ (m : ℕ) (ws : List ℕ) where
  pub length_flags : length (flags m ws) ≡ m
  length_flags = length-map-range_with_len (flag ws) 0 m

  pub flag_at : (i : ℕ) → i < m → get_or (flags m ws) i false ≡ flag ws i
  flag_at i h = get_or-map-range_with_len (flag ws) 0 m i i false h (omega arith)

-- One flag turns, and the others stay.
module _ (ws : List ℕ) (i : ℕ) (room : i < 32 * length ws) where
  in_words : i / 32 < length ws
  in_words = omega arith

  turned-self : flag (turned ws i) i ≡ not (flag ws i)
  turned-self = ap (λ w. bit w (i % 32)) (get_or-set_same ws (i / 32) _ 0 in_words) ∙ turn-self (get_or ws (i / 32) 0) (i % 32)

  turned-other : (j : ℕ) → (j ≡ i → ⊥) → flag (turned ws i) j ≡ flag ws j
  turned-other j ne = elim (cases_eq (j / 32) (i / 32)) [
    | inl e ↦
        let d : j % 32 ≡ i % 32 → ⊥ = λ z. ne (omega (arith, e, z)) in
        ap (λ p. bit (get_or (turned ws i) p 0) (j % 32)) e
        ∙ ap (λ w. bit w (j % 32)) (get_or-set_same ws (i / 32) _ 0 in_words)
        ∙ turn-other (get_or ws (i / 32) 0) (i % 32) (j % 32) d
        ∙ ap (λ p. bit (get_or ws p 0) (j % 32)) (sym e)
    | inr d ↦ ap (λ w. bit w (j % 32)) (get_or-set_other ws (i / 32) (j / 32) _ 0 d)
  ]

  pub turned-flags : (m : ℕ) → i < m → (b : Bool) → flag ws i ≡ not b → flags m (turned ws i) ≡ set (flags m ws) i b
  turned-flags m h b was =
      let l = length_flags m ws in
      ext_get_or false (flags m (turned ws i)) (set (flags m ws) i b)
      (length_flags m (turned ws i) ∙ sym (length-set (flags m ws) i b ∙ l))
      (λ j k.
      let jm : j < m = omega (arith, length_flags m (turned ws i)) in
      flag_at m (turned ws i) j jm
      ∙ elim (cases_eq j i) [
        | inl e ↦
            ap (flag (turned ws i)) e ∙ turned-self ∙ ap not was ∙ not-not b
            ∙ sym (ap (λ z. get_or (set (flags m ws) i b) z false) e ∙ get_or-set_same (flags m ws) i b false (omega (arith, l)))
        | inr d ↦ turned-other j d ∙ sym (get_or-set_other (flags m ws) i j b false d ∙ flag_at m ws j jm)
      ])

  -- The same, by the word that a place is turned with.
  pub turned-flags-by : (m : ℕ) → i < m → (b : Bool) → flag ws i ≡ not b → (v : ℕ) → v ≡ 2 ^ (i % 32) →
      flags m (set ws (i / 32) (bit_xor (get_or ws (i / 32) 0) v)) ≡ set (flags m ws) i b
  turned-flags-by m h b was v e = ap (λ z. flags m (set ws (i / 32) (bit_xor (get_or ws (i / 32) 0) z))) e ∙ turned-flags m h b was

-- Blank words.
module _ (m : ℕ) (ws : List ℕ) (none : bits_fault m (length ws) ≡ None) where
  zero_flag : (i : ℕ) → i < m → flag (blanked (words_for m) ws) i ≡ false
  zero_flag i h = ap (λ w. bit w (i % 32)) (blank-at (words_for m) ws (i / 32) (omega arith)) ∙ ap (λ x. eqb x 1) (bit_at-zero (i % 32))

  pub begins-blank : (after : List ℕ) → after ≡ blanked (words_for m) ws → Begins (bits_fault m (length ws)) m (words_for m) ws after (flags m after)
  begins-blank after e =
      let zs = blanked (words_for m) ws in
      subst (λ a. Begins (bits_fault m (length ws)) m (words_for m) ws a (flags m a)) (sym e)
      (begins _ m (words_for m) ws (flags m zs) none (length_flags m zs) (λ i h. flag_at m zs i h ∙ zero_flag i h))
