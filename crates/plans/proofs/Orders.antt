-- The order by value and number is a strict total order.
use Rattle.std.proofs.Common.{ℕ, List, inl, inr, arith}
use Rattle.std.proofs.lemmas.Bool.{cases_eq, cases_Bool}
use Rattle.std.proofs.lemmas.Bool.Decides.{nat_tests}
use Rattle.graphs.specs.Forest.{Strict}
use Rattle.plans.specs.Places.{Scale, Lawful, value_of, before_by, by_place, place_before}

pub strict-by : {V : Type 0} (s : Scale V) → Lawful s → (table : List V) → Strict (before_by s table)
strict-by s l table = record {
  apart = λ j. let u = value_of s.none table j in let p = l.opposed u u in grind (arith, nat_tests);
  chain = λ i j k h m.
      let u = value_of s.none table i in
      let v = value_of s.none table j in
      let w = value_of s.none table k in
      let p = l.opposed v w in
      let q = l.tied u v in
      let r = l.tied v w in
      let t = l.tied u w in
      let a = l.between u w v in
      let b = l.between v u w in
      let c = l.between u v w in
      let d = l.between w v u in
      grind (arith, nat_tests);
  total = λ j k. elim (cases_eq j k) [
    | inl e ↦ inr (inl e)
    | inr n ↦
        let u = value_of s.none table j in
        let v = value_of s.none table k in
        let p = l.tied u v in
        let q = l.tied v u in
        elim (cases_Bool (before_by s table j k)) [ inl h ↦ inl h | inr h ↦ inr (inr (grind (arith, nat_tests))) ]
  ];
}

pub lawful-places : Lawful by_place
lawful-places = record { opposed = λ u v h. grind (arith, nat_tests); between = λ u v w h. grind (arith, nat_tests); tied = λ u v. grind (arith, nat_tests) }

pub strict-places : (places : List ℕ) → Strict (place_before places)
strict-places places = strict-by by_place lawful-places places
