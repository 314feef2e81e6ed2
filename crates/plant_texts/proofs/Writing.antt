-- Parts that are joined again; numbers that are read and written.
use Rattle.std.proofs.Common.{◌≡◌, ℕ, ◌+◌, ◌-◌, ◌*◌, ◌^◌, ◌<◌, true, eqb, ltb, List, [], ◌∷◌, length, get_or, Some, None, decimal, sym, refl, ap, ◌∙◌, ⊎_elim, arith, rules}
use Rattle.std.proofs.lemmas.Fmt.{digits_decimal, digits_value-decimal, decimal-digits_value, decimal_nonempty, decimal_digit, first_decimal}
use Rattle.std.proofs.lemmas.Str.Parse.{IsNumeralModel, numerals_by_fold}
use Rattle.std.proofs.lemmas.Bool.{cases_Bool, cases_eq, cond-true, cond-false, lt-ltb, ltb-true, eqb-false, ne_eqb, and_from, and_parts}
use Rattle.std.specs.Char.{is_ascii_digit}
use Rattle.std.specs.Str.{all_ascii_digits}
use Rattle.std.proofs.lemmas.List.Splits.{join_with_byte-slice_split}
use Rattle.plant_texts.specs.Laws.{PartsJoin, NumbersOneWay}
use Rattle.text_words.specs.Number.{numeral, value_from}

pub parts_join : PartsJoin
parts_join mark bytes = join_with_byte-slice_split mark bytes

abbrev read_on : ℕ → List ℕ → ℕ
read_on n [] = n
read_on n (c ∷ cs) = read_on (n * 10 + (c - 48)) cs

own : IsNumeralModel (λ ds. all_ascii_digits ds ≡ true) (read_on 0)
own = numerals_by_fold _ (search rules) read_on (search rules)

value_read : (n : ℕ) (ds : List ℕ) → all_ascii_digits ds ≡ true → read_on n ds < 4294967296 → value_from n ds ≡ Some (read_on n ds)
unfolding value_from
value_read n [] h l = cond-true _ _ _ (lt-ltb n 4294967296 l)
value_read n (c ∷ cs) h l = let p = and_parts (is_ascii_digit c) (all_ascii_digits cs) h in cond-true _ _ _ p.0 ∙ value_read (n * 10 + (c - 48)) cs p.1 l

value-told : (n : ℕ) (ds : List ℕ) (v : ℕ) → value_from n ds ≡ Some v → (all_ascii_digits ds ≡ true) × (read_on n ds ≡ v) × (v < 4294967296)
unfolding value_from
value-told n [] v h =
    ⊎_elim
    (λ t. let e : n ≡ v = cc (cond-true (ltb n 4294967296) (Some n) None t) in (refl, e, omega (arith, e, ltb-true n 4294967296 t)))
    (λ f. cc (sym (cond-false (ltb n 4294967296) (Some n) None f) ∙ h))
    (cases_Bool (ltb n 4294967296))
value-told n (c ∷ cs) v h =
    ⊎_elim
    (λ t. let r = value-told (n * 10 + (c - 48)) cs v (sym (cond-true (is_ascii_digit c) _ None t) ∙ h) in (and_from (is_ascii_digit c) (all_ascii_digits cs) t r.0, r.1, r.2))
    (λ f. cc (sym (cond-false (is_ascii_digit c) (value_from (n * 10 + (c - 48)) cs) None f) ∙ h))
    (cases_Bool (is_ascii_digit c))

numeral-is : (bs : List ℕ) → 0 < length bs → (1 < length bs → get_or bs 0 0 ≡ 48 → ⊥) → numeral bs ≡ value_from 0 bs
numeral-is [] h e = absurd (omega arith)
numeral-is (b ∷ []) h e = refl
numeral-is (b ∷ c ∷ bs) h e = cond-false _ _ _ (ne_eqb b 48 (e (omega arith)))

numeral-told : (w : List ℕ) (n : ℕ) → numeral w ≡ Some n → (0 < length w) × (get_or w 0 0 ≡ 48 → length w ≡ 1) × (value_from 0 w ≡ Some n)
numeral-told [] n h = cc
numeral-told (b ∷ []) n h = (omega arith, λ _. refl, h)
numeral-told (b ∷ c ∷ bs) n h =
    ⊎_elim
    (λ t. cc (sym (cond-true (eqb b 48) None (value_from 0 (b ∷ c ∷ bs)) t) ∙ h))
    (λ f. (omega arith, λ e. absurd (eqb-false b 48 f e), sym (cond-false (eqb b 48) None (value_from 0 (b ∷ c ∷ bs)) f) ∙ h))
    (cases_Bool (eqb b 48))

pub write_read : (n : ℕ) → n < 4294967296 → numeral (decimal n) ≡ Some n
write_read n l =
    let small : n < 2 ^ 64 = omega arith in
    let digits = digits_decimal own n small in
    let value = digits_value-decimal own n small in
    let first : (1 < length (decimal n) → get_or (decimal n) 0 0 ≡ 48 → ⊥) = λ long e. ⊎_elim (λ z. omega (arith, ap (λ m. length (decimal m)) z, ap length (decimal_digit 0 (omega arith)))) (λ p. omega (arith, first_decimal n (omega arith) small)) (cases_eq n 0) in
    numeral-is (decimal n) (decimal_nonempty n small) first ∙ value_read 0 (decimal n) digits (omega (arith, value)) ∙ ap Some value

pub read-write : (w : List ℕ) (n : ℕ) → numeral w ≡ Some n → decimal n ≡ w
read-write w n h =
    let t = numeral-told w n h in
    let v = value-told 0 w n t.2 in
    ap decimal (sym v.1) ∙ decimal-digits_value own w v.0 t.0 t.1 (omega (arith, v.1, v.2))

pub numbers-one-way : NumbersOneWay
numbers-one-way = (write_read, read-write)
