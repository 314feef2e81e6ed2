-- What carries once a link has left and another has come, link by link.
use Rattle.std.proofs.Common.{◌≡◌, ℕ, ◌-◌, ◌<◌, ◌≤◌, Bool, true, false, List, length, None, inl, inr, sym, refl, ap, ◌∙◌, ⊎_elim, arith}
use Rattle.std.proofs.lemmas.Bool.{cases_eq, true≢false}
use Rattle.fabrics.specs.Meaning.{carries}
use Rattle.player.specs.Moves.{leave_fault, come_fault, pair_fault, dimmed, lit}
use Rattle.promise.specs.Undo.{Exchanged}
use Rattle.promise.proofs.Flags.{put, length-put, put-here, put-there, unput}
use Rattle.std.proofs.lemmas.Bool.Decides.{nat_tests}

-- Link l, if it is one, is there, and carries or not.
abbrev Is : List Bool → ℕ → Bool → Type 0
Is c l b = (l ≡ 0 → ⊥) → (l - 1 < length c) × (carries c l ≡ b)

leave-is : (c : List Bool) (l : ℕ) → leave_fault c l ≡ None → Is c l true
leave-is c l e z = (grind (arith, nat_tests), grind (arith, nat_tests))

come-is : (c : List Bool) (l : ℕ) → come_fault c l ≡ None → Is c l false
come-is c l e z = (grind (arith, nat_tests), grind (arith, nat_tests))

is-leave : (c : List Bool) (l : ℕ) → Is c l true → leave_fault c l ≡ None
is-leave c l i = elim (cases_eq l 0) [ inl z ↦ grind (arith, nat_tests) | inr z ↦ let h = i z in grind (arith, nat_tests) ]

is-come : (c : List Bool) (l : ℕ) → Is c l false → come_fault c l ≡ None
is-come c l i = elim (cases_eq l 0) [ inl z ↦ grind (arith, nat_tests) | inr z ↦ let h = i z in grind (arith, nat_tests) ]

module _ (b : Bool) (c : List Bool) (l k : ℕ) (some : 1 ≤ k) where
  put-same : k ≡ l → l - 1 < length c → carries (put b c l) k ≡ b
  put-same e h = put-here b c l (k - 1) (omega arith) (omega arith)

  put-other : (k ≡ l → ⊥) → carries (put b c l) k ≡ carries c k
  put-other n = put-there b c l (k - 1) (λ e. n (omega arith))

-- A move that no fault forbids: link l leaves and link x comes.
module _ (c : List Bool) (l x : ℕ) (granted : pair_fault c l x ≡ None) where
  on : Is c l true
  on = leave-is c l (grind arith)

  off : Is c x false
  off = come-is c x (grind arith)

  abbrev mid : List Bool
  mid = dimmed c l

  abbrev end : List Bool
  end = lit mid x

  within-mid : (k : ℕ) → k - 1 < length c → k - 1 < length mid
  within-mid k h = omega (arith, length-put false c l)

  within_end : (k : ℕ) → k - 1 < length c → k - 1 < length end
  within_end k h = omega (arith, length-put false c l, length-put true mid x)

  differ : (l ≡ 0 → ⊥) → (x ≡ 0 → ⊥) → l ≡ x → ⊥
  differ z w e = true≢false (sym (on z).1 ∙ ap (carries c) e ∙ (off w).1)

  left-off : Is mid l false
  left-off z = (within-mid l (on z).0, put-same false c l l (omega arith) refl (on z).0)

  coming-off : Is mid x false
  coming-off z = (
    within-mid x (off z).0,
    ⊎_elim
        (λ (e : x ≡ l). put-same false c l x (omega arith) e (omega (arith, (off z).0)))
        (λ (e : x ≡ l → ⊥). put-other false c l x (omega arith) e ∙ (off z).1)
        (cases_eq x l),
  )

  come-on : Is end x true
  come-on z = (within_end x (off z).0, put-same true mid x x (omega arith) refl (within-mid x (off z).0))

  left-still : Is end l false
  left-still z = (
    within_end l (on z).0,
    ⊎_elim
        (λ (w : x ≡ 0). put-other true mid x l (omega arith) (λ q. omega arith) ∙ (left-off z).1)
        (λ (w : x ≡ 0 → ⊥). put-other true mid x l (omega arith) (differ z w) ∙ (left-off z).1)
        (cases_eq x 0),
  )

  pub may-join : come_fault mid x ≡ None
  may-join = is-come mid x coming-off

  pub may-cancel : come_fault mid l ≡ None
  may-cancel = is-come mid l left-off

  pub may-return : pair_fault end x l ≡ None
  may-return = let a = is-leave end x come-on in let b = is-come end l left-still in grind arith

  pub parted : Exchanged l 0 c mid
  parted = record {
    size = length-put false c l;
    out = λ z. ((on z).1, (left-off z).1);
    into = λ z. absurd (z refl);
    others = λ k some n _. put-other false c l k some n;
  }

  pub exchanged : Exchanged l x c end
  exchanged = record {
    size = length-put true mid x ∙ length-put false c l;
    out = λ z. ((on z).1, (left-still z).1);
    into = λ z. ((off z).1, (come-on z).1);
    others = λ k some n m. put-other true mid x k some m ∙ put-other false c l k some n;
  }

  pub cancelled : lit mid l ≡ c
  cancelled = unput false true c l (λ z. (on z).1)

  pub gone-again : dimmed end x ≡ mid
  gone-again = unput true false mid x (λ z. (coming-off z).1)
