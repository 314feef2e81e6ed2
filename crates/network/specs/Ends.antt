-- The ends of links: each link joins two different nodes among 1 to n.
use Rattle.std.specs.Prelude.{ℕ, ◌+◌, Bool, cond, ◌||◌, List, [], ◌∷◌, Some, None, Ok, Err, Option, Result, ◌==◌, nat_lt}
use Rattle.faults.specs.declared.BlankFault.{BlankFault}
use Rattle.faults.specs.declared.BlankFault.TheVariants as blank
use Rattle.faults.specs.declared.OpenFault.{OpenFault}
use Rattle.faults.specs.declared.OpenFault.TheVariants as open'
use Rattle.network.specs.declared.types.Node.{Node}
use Rattle.network.specs.declared.types.Ends.{Ends}
use Rattle.network.specs.declared.types.EndFault.{EndFault}
use Rattle.network.specs.declared.types.EndFault.TheVariants.{Outside, Same}

-- Whether v is none of the nodes 1 to n.
abbrev pub no_node : ℕ → Node → Bool
no_node n v = v.0 == 0 || nat_lt n v.0

-- What is wrong with the ends of link k: an end that is no node, or one node at both ends.
abbrev pub end_fault : ℕ → ℕ → Ends → Option EndFault
end_fault n k e =
    cond (no_node n e.a) (Some (Outside k)) (cond (no_node n e.b) (Some (Outside k)) (cond (e.a.0 == e.b.0) (Some (Same k)) None))

abbrev pub or_else : {X : Type 0} → Option X → Option X → Option X
or_else None y = y
or_else (Some x) y = Some x

-- What is wrong with the first faulty link of a list whose first link is link k.
abbrev pub first_end_fault : ℕ → ℕ → List Ends → Option EndFault
first_end_fault n k [] = None
first_end_fault n k (e ∷ es) = or_else (end_fault n k e) (first_end_fault n (k + 1) es)

-- A refusal, or this answer.
abbrev pub unless : {X E : Type 0} → Option E → X → Result X E
unless None x = Ok x
unless (Some e) x = Err e

-- What is wrong with the ends of a link, as a ground not to open a network,
abbrev pub no_open : EndFault → OpenFault
no_open (Outside k) = open'.EndOutside k
no_open (Same k) = open'.SameEnds k

-- and as a ground to make no blank fabric.
abbrev pub no_blank : EndFault → BlankFault
no_blank (Outside k) = blank.EndOutside k
no_blank (Same k) = blank.SameEnds k
