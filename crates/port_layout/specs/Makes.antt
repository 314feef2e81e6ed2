-- When memory is refused as a port table.
use Rattle.std.specs.Prelude.{◌≡◌, ℕ, ◌+◌, ◌*◌, cond, List, [], length, Some, None, Option, ◌==◌, nat_lt}
use Rattle.faults.specs.declared.BlankFault.{BlankFault}
use Rattle.faults.specs.declared.BlankFault.TheVariants.{NodeCount, LinkCount, ShortMemory}
use Rattle.network.specs.Ends.{first_end_fault, no_blank}
use Rattle.network.specs.declared.types.Ends.{Ends}
use Rattle.network.specs.declared.types.EndFault.{EndFault}

-- What is wrong with the ends of links, as a ground to make no port table.
abbrev pub of_ends : Option EndFault → Option BlankFault
of_ends None = None
of_ends (Some f) = Some (no_blank f)

-- How many bytes a port table of n nodes and m links needs.
abbrev pub table_size : ℕ → ℕ → ℕ
table_size n m = 2 * n + 4 * m

-- Why memory of so many bytes makes no port table of n nodes with these links, if so.
abbrev pub table_fault : ℕ → List Ends → ℕ → Option BlankFault
table_fault n es len =
    cond (n == 0) (Some NodeCount) (cond (nat_lt 4096 n) (Some NodeCount) (cond (nat_lt 16384 (length es)) (Some LinkCount)
    (cond (nat_lt len (table_size n (length es))) (Some ShortMemory) (of_ends (first_end_fault n 1 es)))))

-- The nodes and the links that a new port table has: those asked for, or none where it is refused.
abbrev pub Wired : Option BlankFault → ℕ → List Ends → ℕ → List Ends → Type 0
Wired None n es nodes links = (nodes ≡ n) × (links ≡ es)
Wired (Some f) n es nodes links = (nodes ≡ 0) × (links ≡ [])
