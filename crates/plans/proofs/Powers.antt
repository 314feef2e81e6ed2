-- The least power of two that reaches a number.
use Rattle.std.proofs.Common.{ℕ, zero, suc, ◌^◌, ◌<◌, ◌≤◌, leb, arith, pow_mono}
use Rattle.std.proofs.lemmas.Bool.{cond_both, leb-true, leb-false}
use Rattle.plans.specs.Work.{least_power, doublings}

below_power : (n : ℕ) → suc n ≤ 2 ^ n
below_power zero = omega arith
below_power (suc n) = omega (arith, below_power n)

least-reaches : (m n : ℕ) → m ≤ 2 ^ n → m ≤ 2 ^ least_power m n
unfolding least_power
least-reaches m zero h = h
least-reaches m (suc n) h =
    cond_both (leb m (2 ^ n)) (least_power m n) (suc n) (λ l. m ≤ 2 ^ l) (λ e. least-reaches m n (leb-true m (2 ^ n) e)) (λ _. h)

least-least : (m n k : ℕ) → k < least_power m n → 2 ^ k < m
unfolding least_power
least-least m zero k h = omega arith
least-least m (suc n) k h =
    cond_both (leb m (2 ^ n)) (least_power m n) (suc n) (λ l. k < l → 2 ^ k < m)
    (λ _. least-least m n k)
    (λ e l. let p : 2 ^ k ≤ 2 ^ n = pow_mono (omega arith) in omega (arith, leb-false m (2 ^ n) e)) h

-- m is at most 2 to its doublings, and more than 2 to any smaller number.
pub doublings-reach : (m : ℕ) → m ≤ 2 ^ doublings m
doublings-reach m = least-reaches m m (omega (arith, below_power m))

pub doublings-least : (m k : ℕ) → k < doublings m → 2 ^ k < m
doublings-least m = least-least m m
