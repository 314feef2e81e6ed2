-- When a network is opened, and what the tree table then holds.
use Rattle.std.specs.Prelude.{ℕ, ◌+◌, ◌*◌, cond, List, length, Some, None, Option}
use Rattle.faults.specs.declared.OpenFault.{OpenFault}
use Rattle.faults.specs.declared.OpenFault.TheVariants.{NotJoined}
use Rattle.network.specs.declared.types.Ends.{Ends}
use Rattle.network.specs.declared.types.LinkState.{LinkState}
use Rattle.network.specs.Ends.{or_else}
pub use Rattle.network.specs.Ends.{unless, no_open}
pub use Rattle.drawing.specs.Tables.{fronted, misfit, tables_fault, joined}

-- Why a network of n nodes is not opened with a tree table of t numbers and a work area of w words, if so.
abbrev pub open_fault : {W : Type 0} → ℕ → List Ends → List (LinkState W) → ℕ → ℕ → Option OpenFault
open_fault n ends links t w =
    or_else (tables_fault n ends (length links) t w) (cond (joined n ends links) None (Some NotJoined))

-- What is wrong with a network, whatever the work area.
abbrev pub network_fault : {W : Type 0} → ℕ → List Ends → List (LinkState W) → ℕ → Option OpenFault
network_fault n ends links t = open_fault n ends links t (64 * (n + length ends))
