-- When a batch is drawn, and what a granted draw answers.
use Rattle.std.specs.Prelude.{ℕ, ◌+◌, ◌-◌, ◌*◌, Bool, cond, ◌||◌, List, length, Some, None, Option, nat_lt}
use Rattle.std.specs.Option.{option_map}
use Rattle.faults.specs.declared.OpenFault.{OpenFault}
use Rattle.faults.specs.declared.DrawFault.{DrawFault}
use Rattle.faults.specs.declared.DrawFault.TheVariants.{NotOpened, ChangeCount, ShortTables}
use Rattle.weights.specs.declared.order.Side.{Side}
use Rattle.network.specs.declared.types.Ends.{Ends}
use Rattle.network.specs.declared.types.LinkState.{LinkState}
use Rattle.network.specs.declared.types.Change.{Change}
use Rattle.network.specs.Ends.{or_else}
use Rattle.plans.specs.Network.{work_count, parted_at}
use Rattle.planner.specs.declared.drawn.Drawn.{Drawn}
pub use Rattle.places.specs.Changes.{remove_fault, change_fault, changes_fault}
pub use Rattle.drawing.specs.Answer.{parted_fault, unless}

-- Whether a start list of s numbers, an entry table of e entries or a work area of w words is too short for k changes.
abbrev pub too_short : ℕ → ℕ → ℕ → ℕ → ℕ → ℕ → Bool
too_short n m k s e w = nat_lt s (n - 1) || nat_lt e k || nat_lt w (64 * (n + m + k))

-- Why no batch of k changes is drawn, whatever they are: they are too many, or a table is too short.
abbrev pub sizes_fault : ℕ → ℕ → ℕ → ℕ → ℕ → ℕ → Option DrawFault
sizes_fault n m k s e w = cond (nat_lt 65536 k) (Some ChangeCount) (cond (too_short n m k s e w) (Some ShortTables) None)

-- Why a batch is not drawn from a network that was opened, if so.
abbrev pub batch_fault : {W : Type 0} → ℕ → List Ends → List (LinkState W) → List (Change W) → ℕ → ℕ → ℕ → Option DrawFault
batch_fault n ends links batch s e w =
    cond (nat_lt 65536 (length batch)) (Some ChangeCount) (cond (too_short n (length ends) (length batch) s e w) (Some ShortTables)
    (or_else (changes_fault 1 links batch) (parted_fault (parted_at n ends links batch))))

-- The same of a book whose open may have been refused.
abbrev pub draw_fault : {W : Type 0} → Option OpenFault → ℕ → List Ends → List (LinkState W) → List (Change W) → ℕ → ℕ → ℕ → Option DrawFault
draw_fault refusal n ends links batch s e w = or_else (option_map (λ f. NotOpened f) refusal) (batch_fault n ends links batch s e w)

-- The counts of a plan and its work count.
abbrev pub counts : {W : Type 0} → (W → W → Side) → ℕ → List Ends → List (LinkState W) → List (Change W) → Drawn
counts side n ends links batch =
    record { n = n; m = length ends; k = length batch; work = work_count side n ends links batch }
