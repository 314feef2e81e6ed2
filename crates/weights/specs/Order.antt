-- The order of costs and of class weights.
use Rattle.std.specs.Prelude.{ℕ, cond, ◌==◌, nat_lt}
use Rattle.std.specs.declared.cmp.Ordering.{Ordering}
use Rattle.std.specs.declared.cmp.Ordering.TheVariants.{Less, Equal, Greater}
use Rattle.weights.specs.declared.class.Class.{Class}
use Rattle.weights.specs.declared.standing.Standing.{Standing}
use Rattle.weights.specs.declared.standing.Standing.TheVariants.{At, Absent}
use Rattle.weights.specs.declared.order.Side.{Side}
use Rattle.weights.specs.declared.order.Side.TheVariants.{Before, Level, After}

-- what is less is before
abbrev pub side_from : Ordering → Side
side_from Less = Before
side_from Equal = Level
side_from Greater = After

-- the smaller number is before
abbrev pub compared : ℕ → ℕ → Side
compared a b = cond (nat_lt a b) Before (cond (a == b) Level After)

-- the class decides, then the cost
abbrev pub classed : Class → Class → Side
classed u v = cond (nat_lt u.class v.class) Before (cond (nat_lt v.class u.class) After (compared u.cost v.cost))

-- absent ones are after all others, and level with each other
abbrev pub stand : {W : Type 0} → (W → W → Side) → Standing W → Standing W → Side
stand side (At u) (At v) = side u v
stand side (At u) Absent = Before
stand side Absent (At v) = After
stand side Absent Absent = Level
