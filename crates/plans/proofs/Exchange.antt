-- What one link's move in the order exchanges, told by the numbers of the least forests.
use Rattle.std.proofs.Common.{◌≡◌, ℕ, Bool, false, List, sym, ◌∙◌, inl, inr}
use Rattle.std.proofs.lemmas.Bool.{cases_eq, both_ways}
use Rattle.block_records.specs.declared.Link.{Link}
use Rattle.graphs.specs.Forest.{Strict, Distinct, forest}
use Rattle.graphs.specs.Thinning.{Leaves, OneChange}
use Rattle.graphs.proofs.Change.{replaced}
use Rattle.plans.specs.Plan.{numbers, among, first_but, Gone, Exchange}
use Rattle.plans.proofs.Ascending.{first-or}
use Rattle.plans.proofs.Numbers.{in-numbers, among-holds}

-- What leaves a forest, and the number that goes from its numbers.
gone-leaves : (A B : List Link) (k : ℕ) → Gone (numbers A) (numbers B) k → Leaves k A B
gone-leaves A B k g = (sym (among-holds k A) ∙ g.0, sym (among-holds k B) ∙ g.1)

leaves-gone : (A B : List Link) (k : ℕ) → Leaves k A B → Gone (numbers A) (numbers B) k
leaves-gone A B k g = (among-holds k A ∙ g.0, among-holds k B ∙ g.1)

pub one-exchange : (z : ℕ) (A B : List Link) → OneChange z A B → Exchange z (numbers A) (numbers B)
one-exchange z A B x = record {
  leaves = λ j k g h. x.out j k (gone-leaves A B j g) (gone-leaves A B k h);
  comes = λ j k g h. x.into j k (gone-leaves B A j g) (gone-leaves B A k h);
  touches = λ k g. elim (cases_eq k z) [
    | inl e ↦ rw e at g
    | inr n ↦ elim g [
      | inl h ↦ inr (leaves-gone B A z (x.out-for k n (gone-leaves A B k h)))
      | inr h ↦ inl (leaves-gone A B z (x.into-for k n (gone-leaves B A k h)))
    ]
  ];
}

-- Where no link leaves, none comes.
pub none-comes : (lt lt' : ℕ → ℕ → Bool) → Strict lt → Strict lt' → (es : List Link) → Distinct es
    → let xs = numbers (forest lt es) in let ys = numbers (forest lt' es) in
    among 0 xs ≡ false → first_but xs ys ≡ 0 → first_but ys xs ≡ 0
none-comes lt lt' o o' es d z e =
    let xs = numbers (forest lt es) in
    let ys = numbers (forest lt' es) in
    elim (first-or xs ys) [
      | inr g ↦ absurd (both_ways (among 0 xs) z (rw e at g.0))
      | inl r ↦ elim (first-or ys xs) [
        | inl s ↦ s.0
        | inr g ↦ absurd (replaced o' o (record { distinct = d }) (first_but ys xs)
            (gone-leaves (forest lt' es) (forest lt es) (first_but ys xs) g)
            (λ f i. sym (among-holds f.number (forest lt' es)) ∙ r.1 f.number (in-numbers i)))
      ]
    ]
