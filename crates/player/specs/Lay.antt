-- What lay answers, and what carries then.
use Rattle.std.specs.Prelude.{◌≡◌, ℕ, zero, suc, Bool, true, false, cond, List, [], ◌∷◌, ◌++◌, length, Some, None, Ok, Err, Option, Result, ◌==◌}
use Rattle.faults.specs.declared.PlayerFault.{PlayerFault}
use Rattle.faults.specs.declared.PlayerFault.TheVariants.{OtherSize, OtherPlan, NotBlank}
use Rattle.network.specs.Ends.{or_else}
use Rattle.player.specs.declared.states.Steady.{Steady}
use Rattle.player.specs.Plan.{Sheet, starts, unfit}
use Rattle.player.specs.States.{Rest, rest}
use Rattle.player.specs.Start.{mem, list_fault}

-- The flags of links 1 to m of which exactly those in the list carry.
abbrev pub only : ℕ → List ℕ → List Bool
only zero xs = []
only (suc m) xs = only m xs ++ mem (suc m) xs ∷ []

-- Whether two lists of flags agree.
abbrev pub agree : List Bool → List Bool → Bool
agree [] [] = true
agree [] (y ∷ ys) = false
agree (x ∷ xs) [] = false
agree (x ∷ xs) (y ∷ ys) = cond x (cond y (agree xs ys) false) (cond y false (agree xs ys))

-- Why lay is refused, if it is, at the carrying links c: the fabric has another size, the plan is unfit, the start list has
-- a fault, or neither nothing nor exactly the start list carries.
abbrev pub lay_fault : Sheet → List Bool → Option PlayerFault
lay_fault s c =
    cond (length c == s.m)
    (cond (unfit s) (Some OtherPlan)
    (or_else (list_fault s.m [] (starts s))
    (cond (agree c (only s.m [])) None (cond (agree c (only s.m (starts s))) None (Some NotBlank)))))
    (Some OtherSize)

-- The state in which lay begins.
abbrev pub laid : Sheet → Rest
laid s = record { n = s.n; m = s.m; k = s.k; t = 0 }

-- The answer of lay, with the carrying links c before and d after: granted, the player is steady after 0 changes and exactly
-- the start list carries; refused, what carries is as it was.
abbrev pub Lays : Sheet → List Bool → Result Steady PlayerFault → List Bool → Type 0
Lays s c (Ok p) d = (lay_fault s c ≡ None) × (rest p ≡ laid s) × (d ≡ only s.m (starts s))
Lays s c (Err f) d = (lay_fault s c ≡ Some f) × (d ≡ c)
