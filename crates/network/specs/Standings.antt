-- How a link stands.
use Rattle.std.specs.Prelude.{Bool, true, false}
use Rattle.weights.specs.declared.standing.Standing.{Standing}
use Rattle.weights.specs.declared.standing.Standing.TheVariants.{At, Absent}
use Rattle.network.specs.declared.types.LinkState.{LinkState}

-- At its weight, or absent.
abbrev pub standing_if : {W : Type 0} → Bool → W → Standing W
standing_if true w = At w
standing_if false w = Absent

abbrev pub standing_of : {W : Type 0} → LinkState W → Standing W
standing_of l = standing_if l.present l.weight
