-- A block of one change: what it exchanges on at most two links. And when the least forest holds an absent link.
use Rattle.std.specs.Prelude.{ℕ, Bool, false, cond, List, [], ◌∷◌, Some, None, Option, ◌==◌, nat_le}
use Rattle.block_records.specs.declared.Link.{Link}
use Rattle.plans.specs.Places.{place_of, place_before}
use Rattle.thinning.specs.Marks.{Ascends}
use Rattle.std.specs.Coded.{×_prop, Unit-prop}
use Rattle.std.proofs.Props.{props}

-- Whether a link between x and y is between the different nodes a and b.
abbrev pub crossing : ℕ → ℕ → ℕ → ℕ → Bool
crossing a b x y = cond (a == b) false (cond (x == a) (y == b) (cond (x == b) (y == a) false))

-- Of two links between the same nodes, the one that is first in order; 0 for any other links.
unfoldable pub winner : List ℕ → List Link → ℕ
winner places [] = 0
winner places (e ∷ []) = 0
winner places (e ∷ f ∷ []) = cond (crossing e.a.0 e.b.0 f.a.0 f.b.0) (cond (place_before places e.number f.number) e.number f.number) 0
winner places (e ∷ f ∷ g ∷ es) = 0

-- The same as a link, if there is one.
unfoldable pub leader : List ℕ → List Link → Option Link
leader places [] = None
leader places (e ∷ []) = None
leader places (e ∷ f ∷ []) = cond (crossing e.a.0 e.b.0 f.a.0 f.b.0) (Some (cond (place_before places e.number f.number) e f)) None
leader places (e ∷ f ∷ g ∷ es) = None

-- Whether a link between different nodes is at the absent place or later.
abbrev pub late_link : ℕ → List ℕ → Link → Bool
late_link absent places e = cond (e.a.0 == e.b.0) false (nat_le absent (place_of places e.number))

-- Links ascend in one way at most.
pub Ascends-prop : (es : List Link) → IsProp (Ascends es)
Ascends-prop [] = Unit-prop
Ascends-prop (e ∷ es) = ×_prop (hlevel props) (Ascends-prop es)
