-- The numbers of a player, apart from what is known of them.
use Rattle.std.specs.Prelude.{ℕ, Bool, true, false, cond, ◌==◌}
use Rattle.player.specs.declared.states.Steady.{Steady}
use Rattle.player.specs.declared.states.Between.{Between}
use Rattle.player.specs.Plan.{Sheet, unfit}

-- A steady player's: after t changes of a plan of n nodes, m links and k changes.
pub record Rest : Type 0 where
  pub n : ℕ
  pub m : ℕ
  pub k : ℕ
  pub t : ℕ

abbrev pub rest : Steady → Rest
rest p = record { n = p.counts.n; m = p.counts.m; k = p.counts.k; t = p.t }

-- Those of a player between: on its way from moment t to moment `to`.
pub record Way : Type 0 where
  pub n : ℕ
  pub m : ℕ
  pub k : ℕ
  pub t : ℕ
  pub to : ℕ
  pub leaving : ℕ
  pub coming : ℕ

abbrev pub way : Between → Way
way b = record { n = b.counts.n; m = b.counts.m; k = b.counts.k; t = b.t; to = b.to; leaving = b.leaving; coming = b.coming }

-- Whether a plan cannot be the one that a player was laid from.
abbrev pub unlike : Rest → Sheet → Bool
unlike p s =
    cond (unfit s) true
    (cond (s.n == p.n) (cond (s.m == p.m) (cond (s.k == p.k) false true) true) true)
