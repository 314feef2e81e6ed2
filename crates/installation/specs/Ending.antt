-- What the end of a player answers.
use Rattle.promise.specs.declared.answer.Answer.{Answer}
use Rattle.promise.specs.declared.answer.Answer.TheVariants.{NotMade, Abandoned, Finished}
use Rattle.installation.specs.declared.seat.Seat.{Seat}
use Rattle.installation.specs.declared.seat.Seat.TheVariants.{Free, Still, Moving}

-- Finish of a steady player, abandon of one between; no call where there is none.
abbrev pub ended : Seat → Answer
ended Free = NotMade
ended (Still p) = Finished p.t
ended (Moving b) = Abandoned b.leaving b.coming
