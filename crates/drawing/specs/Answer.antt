-- Why no plan is drawn, and what is answered.
use Rattle.std.specs.Prelude.{ℕ, cond, Some, None, Option, ◌==◌}
pub use Rattle.network.specs.Ends.{unless}
use Rattle.faults.specs.declared.DrawFault.{DrawFault}
use Rattle.faults.specs.declared.DrawFault.TheVariants.{Parted}

-- The change after which the present links no longer join all nodes, if there is one.
abbrev pub parted_fault : ℕ → Option DrawFault
parted_fault change = cond (change == 0) None (Some (Parted change))
