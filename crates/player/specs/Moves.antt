-- What forward, backward, join and cancel answer, and what carries then.
use Rattle.std.specs.Prelude.{◌≡◌, ℕ, ◌+◌, ◌-◌, Bool, true, false, cond, List, Some, None, Ok, Err, Option, Result, ◌==◌, nat_lt, slice_set}
use Rattle.faults.specs.declared.FabricFault.{FabricFault}
use Rattle.faults.specs.declared.PlayerFault.{PlayerFault}
use Rattle.faults.specs.declared.PlayerFault.TheVariants.{OtherPlan, NoEntry, Refused}
use Rattle.network.specs.Ends.{or_else}
use Rattle.fabrics.specs.Meaning.{enable_fault, disable_fault}
use Rattle.player.specs.declared.states.Steady.{Steady}
use Rattle.player.specs.declared.states.Between.{Between}
use Rattle.player.specs.declared.states.Kept.{Kept}
use Rattle.player.specs.Plan.{Sheet, entry}
use Rattle.player.specs.States.{Rest, rest, Way, way, unlike}

-- A fabric's refusal as the player tells it.
abbrev pub told : Option FabricFault → Option PlayerFault
told None = None
told (Some f) = Some (Refused f)

-- Why a link that leaves, or one that comes, is refused; 0 is skipped.
abbrev pub leave_fault : List Bool → ℕ → Option PlayerFault
leave_fault c l = cond (l == 0) None (told (disable_fault c l))

abbrev pub come_fault : List Bool → ℕ → Option PlayerFault
come_fault c l = cond (l == 0) None (told (enable_fault c l))

-- Why a move is refused whose leaving link is l and whose coming link is e, at the carrying links c.
abbrev pub pair_fault : List Bool → ℕ → ℕ → Option PlayerFault
pair_fault c l e = or_else (leave_fault c l) (come_fault c e)

-- What carries once a link has left, or has come.
abbrev pub dimmed : List Bool → ℕ → List Bool
dimmed c l = cond (l == 0) c (slice_set c (l - 1) false)

abbrev pub lit : List Bool → ℕ → List Bool
lit c l = cond (l == 0) c (slice_set c (l - 1) true)

-- What answers a call that lets link l leave, before link e comes, and one that lets link l come, with the carrying links c before
-- and d after.
abbrev pub Leaves : {U : Type 0} → ℕ → ℕ → List Bool → Result U PlayerFault → List Bool → Type 0
Leaves l e c (Ok u) d = (pair_fault c l e ≡ None) × (d ≡ dimmed c l)
Leaves l e c (Err f) d = (pair_fault c l e ≡ Some f) × (d ≡ c)

abbrev pub Comes : {U : Type 0} → ℕ → List Bool → Result U PlayerFault → List Bool → Type 0
Comes l c (Ok u) d = (come_fault c l ≡ None) × (d ≡ lit c l)
Comes l c (Err f) d = (come_fault c l ≡ Some f) × (d ≡ c)

-- Why forward is refused, if it is: another plan, no entry left, or the fabric refuses a link of the entry.
abbrev pub forward_fault : Rest → Sheet → List Bool → Option PlayerFault
forward_fault p s c =
    cond (unlike p s) (Some OtherPlan)
    (cond (nat_lt p.t p.k) (pair_fault c (entry s p.t).0 (entry s p.t).1) (Some (NoEntry p.t)))

-- Why backward is refused, if it is: it takes the entry before, leaving and coming exchanged.
abbrev pub backward_fault : Rest → Sheet → List Bool → Option PlayerFault
backward_fault p s c =
    cond (unlike p s) (Some OtherPlan)
    (cond (p.t == 0) (Some (NoEntry p.t)) (pair_fault c (entry s (p.t - 1)).1 (entry s (p.t - 1)).0))

-- Why a player at rest finds no entry that leads on, or none that leads back, if so.
abbrev pub next_fault : Rest → Sheet → Option PlayerFault
next_fault p s = cond (unlike p s) (Some OtherPlan) (cond (nat_lt p.t p.k) None (Some (NoEntry p.t)))

abbrev pub last_fault : Rest → Sheet → Option PlayerFault
last_fault p s = cond (unlike p s) (Some OtherPlan) (cond (p.t == 0) (Some (NoEntry p.t)) None)

-- An entry taken back.
abbrev pub turned : ℕ × ℕ → ℕ × ℕ
turned e = (e.1, e.0)

-- The state between to which a player at rest comes by an entry that leads to moment u.
abbrev pub bound : Rest → ℕ → ℕ × ℕ → Way
bound p u e = record { n = p.n; m = p.m; k = p.k; t = p.t; to = u; leaving = e.0; coming = e.1 }

-- What setting out by an entry to moment u answers, with the carrying links c before and d after.
abbrev pub SetsOut : Rest → ℕ → ℕ × ℕ → List Bool → Result Between (Kept Steady) → List Bool → Type 0
SetsOut p u e c (Ok b) d = (pair_fault c e.0 e.1 ≡ None) × (way b ≡ bound p u e) × (d ≡ dimmed c b.leaving)
SetsOut p u e c (Err k) d = (pair_fault c e.0 e.1 ≡ Some k.fault) × (rest k.player ≡ p) × (d ≡ c)

-- The states between to which a steady player comes by forward and by backward.
abbrev pub onward : Rest → Sheet → Way
onward p s =
    record { n = p.n; m = p.m; k = p.k; t = p.t; to = p.t + 1; leaving = (entry s p.t).0; coming = (entry s p.t).1 }

abbrev pub back : Rest → Sheet → Way
back p s =
    record { n = p.n; m = p.m; k = p.k; t = p.t; to = p.t - 1; leaving = (entry s (p.t - 1)).1; coming = (entry s (p.t - 1)).0 }

-- The answers of forward and backward, with the carrying links c before and d after: granted, the leaving link has left;
-- refused, the player is handed back as it was and what carries is as it was.
abbrev pub Forwards : Rest → Sheet → List Bool → Result Between (Kept Steady) → List Bool → Type 0
Forwards p s c (Ok b) d = (forward_fault p s c ≡ None) × (way b ≡ onward p s) × (d ≡ dimmed c b.leaving)
Forwards p s c (Err k) d = (forward_fault p s c ≡ Some k.fault) × (rest k.player ≡ p) × (d ≡ c)

abbrev pub Backwards : Rest → Sheet → List Bool → Result Between (Kept Steady) → List Bool → Type 0
Backwards p s c (Ok b) d = (backward_fault p s c ≡ None) × (way b ≡ back p s) × (d ≡ dimmed c b.leaving)
Backwards p s c (Err k) d = (backward_fault p s c ≡ Some k.fault) × (rest k.player ≡ p) × (d ≡ c)

-- What settling at moment t by link l answers, with the carrying links c before and d after.
abbrev pub Settles : Way → ℕ → ℕ → List Bool → Result Steady (Kept Between) → List Bool → Type 0
Settles b t l c (Ok p) d = (come_fault c l ≡ None) × (rest p ≡ record { n = b.n; m = b.m; k = b.k; t = t }) × (d ≡ lit c l)
Settles b t l c (Err k) d = (come_fault c l ≡ Some k.fault) × (way k.player ≡ b) × (d ≡ c)

-- The steady states to which a player between comes by join and by cancel.
abbrev pub arrived : Way → Rest
arrived b = record { n = b.n; m = b.m; k = b.k; t = b.to }

abbrev pub returned : Way → Rest
returned b = record { n = b.n; m = b.m; k = b.k; t = b.t }

-- The answers of join and cancel, with the carrying links c before and d after: granted, the coming link, or the leaving one
-- again, carries; refused, the player is handed back between and what carries is as it was.
abbrev pub Joins : Way → List Bool → Result Steady (Kept Between) → List Bool → Type 0
Joins b c (Ok p) d = (come_fault c b.coming ≡ None) × (rest p ≡ arrived b) × (d ≡ lit c b.coming)
Joins b c (Err k) d = (come_fault c b.coming ≡ Some k.fault) × (way k.player ≡ b) × (d ≡ c)

abbrev pub Cancels : Way → List Bool → Result Steady (Kept Between) → List Bool → Type 0
Cancels b c (Ok p) d = (come_fault c b.leaving ≡ None) × (rest p ≡ returned b) × (d ≡ lit c b.leaving)
Cancels b c (Err k) d = (come_fault c b.leaving ≡ Some k.fault) × (way k.player ≡ b) × (d ≡ c)
