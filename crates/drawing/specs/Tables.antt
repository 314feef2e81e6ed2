-- What is wrong with the tables of a network, and a table that was written over.
use Rattle.std.specs.Prelude.{ℕ, ◌+◌, ◌-◌, ◌*◌, Bool, cond, not, ◌||◌, List, ◌++◌, length, drop, Some, Option, ◌==◌, nat_lt}
use Rattle.std.specs.Option.{option_map}
use Rattle.faults.specs.declared.OpenFault.{OpenFault}
use Rattle.faults.specs.declared.OpenFault.TheVariants.{NodeCount, LinkCount, ShortTables}
use Rattle.network.specs.declared.types.Ends.{Ends}
use Rattle.network.specs.declared.types.LinkState.{LinkState}
use Rattle.network.specs.Ends.{first_end_fault, no_open}
use Rattle.graphs.specs.Spanning.{all_joined}
use Rattle.plans.specs.Network.{graph_of, present_links}

-- A table with a list written over its front, and the rest kept.
abbrev pub fronted : {X : Type 0} → List X → List X → List X
fronted xs table = xs ++ drop (length xs) table

-- Whether a link table of l links, a tree table of t numbers or a work area of w words does not fit a network of n nodes
-- and m links.
abbrev pub misfit : ℕ → ℕ → ℕ → ℕ → ℕ → Bool
misfit n m l t w = not (m == l) || nat_lt t (n - 1) || nat_lt w (64 * (n + m))

-- What is wrong with the counts, the lengths of the tables or the ends of the links, in this order.
abbrev pub tables_fault : ℕ → List Ends → ℕ → ℕ → ℕ → Option OpenFault
tables_fault n ends l t w =
    cond (n == 0 || nat_lt 4096 n) (Some NodeCount) (cond (nat_lt 16384 (length ends)) (Some LinkCount)
    (cond (misfit n (length ends) l t w) (Some ShortTables) (option_map no_open (first_end_fault n 1 ends))))

-- Whether the present links join all nodes.
abbrev pub joined : {W : Type 0} → ℕ → List Ends → List (LinkState W) → Bool
joined n ends links = all_joined n (present_links links (graph_of ends))
