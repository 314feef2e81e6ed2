-- When a change is refused.
use Rattle.std.specs.Prelude.{ℕ, ◌+◌, cond, ◌||◌, List, [], ◌∷◌, length, Some, None, Option, ◌==◌, nat_lt}
use Rattle.faults.specs.declared.DrawFault.{DrawFault}
use Rattle.faults.specs.declared.DrawFault.TheVariants.{LinkOutside, RemoveAbsent}
use Rattle.network.specs.declared.types.LinkState.{LinkState}
use Rattle.network.specs.declared.types.Change.{Change}
use Rattle.network.specs.declared.types.Change.TheVariants.{Set, Remove, Flip}
use Rattle.network.specs.Ends.{or_else}
use Rattle.plans.specs.Network.{link_of, changed, is_at, standing_at}

-- Why change i is refused, of a network whose links stand so by then: a link that is not there, or the removal of an absent one.
abbrev pub remove_fault : {W : Type 0} → ℕ → List (LinkState W) → Change W → Option DrawFault
remove_fault i links (Set k w) = None
remove_fault i links (Remove k) = cond (is_at (standing_at links k)) None (Some (RemoveAbsent i))
remove_fault i links (Flip k) = None

abbrev pub change_fault : {W : Type 0} → ℕ → List (LinkState W) → Change W → Option DrawFault
change_fault i links c = cond (link_of c == 0 || nat_lt (length links) (link_of c)) (Some (LinkOutside i)) (remove_fault i links c)

-- Why the first refused change is refused, where the first of these is change i.
unfoldable pub changes_fault : {W : Type 0} → ℕ → List (LinkState W) → List (Change W) → Option DrawFault
changes_fault i links [] = None
changes_fault i links (c ∷ cs) = or_else (change_fault i links c) (changes_fault (i + 1) (changed links c) cs)
