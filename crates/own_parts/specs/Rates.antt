-- Rates: the larger is before.
use Rattle.std.specs.Prelude.{ℕ, List, [], ◌∷◌, Some, None, Option}
use Rattle.weights.specs.declared.order.Side.{Side}
use Rattle.weights.specs.Order.{compared}
use Rattle.own_parts.specs.declared.rates.Rate.{Rate}

-- The larger rate is before.
abbrev pub faster : Rate → Rate → Side
faster u v = compared v.0 u.0

-- A rate is one number.
abbrev pub rate_from : List ℕ → Option Rate
rate_from [] = None
rate_from (x ∷ []) = Some (record { 0 = x })
rate_from (x ∷ y ∷ xs) = None
