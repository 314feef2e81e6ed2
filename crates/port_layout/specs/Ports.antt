-- The port table: for n nodes and m links, the heads of n chains and then the next indexes of 2m records.
-- Link k owns record 2k - 1 in its first end's chain and record 2k in its second end's chain.
use Rattle.std.specs.Prelude.{◌≡◌, ℕ, ◌+◌, ◌-◌, ◌*◌, ◌/◌, ◌%◌, ◌<◌, ◌≤◌, Bool, cond, List, ◌∷◌, map, length, ◌==◌, slice_index_or}
use Rattle.std.specs.Borrow.{GName}
use Rattle.std.specs.List.{range_with_len}
use Rattle.network.specs.declared.types.Ends.{Ends}
use Rattle.port_layout.specs.Chains.{chain, has, without, holder, Sound}
use Rattle.port_layout.specs.Words.{word, pushed, unlinked}

-- The ends of the link at place i, which is link i + 1.
abbrev pub ends_of : List Ends → ℕ → Ends
ends_of es i = slice_index_or es i (record { a = record { 0 = 0 }; b = record { 0 = 0 } })

-- The cells of the heads of that link's ends: node v has its head in cell v - 1.
abbrev pub first_head : List Ends → ℕ → ℕ
first_head es i = (ends_of es i).a.0 - 1

abbrev pub second_head : List Ends → ℕ → ℕ
second_head es i = (ends_of es i).b.0 - 1

-- The head of the chain that record r belongs to.
abbrev pub owner : List Ends → ℕ → ℕ
owner es r = cond (r % 2 == 1) (first_head es ((r - 1) / 2)) (second_head es ((r - 1) / 2))

-- The records in the chain whose head is cell v.
abbrev pub chain_of : ℕ → List Ends → List ℕ → ℕ → List ℕ
chain_of n es bs v = chain n (word bs) (2 * length es) v

-- Whether a link carries: its first record is in its first end's chain.
abbrev pub linked : ℕ → List Ends → List ℕ → ℕ → Bool
linked n es bs i = has (2 * i + 1) (chain_of n es bs (first_head es i))

-- The flag of each link: whether it carries.
abbrev pub flags : ℕ → List Ends → List ℕ → List Bool
flags n es bs = map (linked n es bs) (range_with_len 0 (length es))

-- That a link's ends are two nodes.
pub record Joins (n : ℕ) (e : Ends) : Type 0 where
  pub first-is : 0 < e.a.0
  pub first-in : e.a.0 ≤ n
  pub second-is : 0 < e.b.0
  pub second-in : e.b.0 ≤ n
  pub apart : e.a.0 ≡ e.b.0 → ⊥

-- That memory is a port table: it has the room, each link joins two nodes, the chains are sound, and both records of a link
-- are in their chains or neither.
pub record Table (n : ℕ) (es : List Ends) (bs : List ℕ) : Type 0 where
  pub nodes : n ≤ 4096
  pub links : length es ≤ 16384
  pub room : 2 * n + 4 * length es ≤ length bs
  pub joins : (i : ℕ) → i < length es → Joins n (ends_of es i)
  pub sound : Sound n (2 * length es) (owner es) (word bs)
  pub paired : (i : ℕ) → i < length es → linked n es bs i ≡ has (2 * i + 2) (chain_of n es bs (second_head es i))

-- Memory with both records of a link put at the front of their chains, the first end's first.
abbrev pub enabled : ℕ → List Ends → List ℕ → ℕ → List ℕ
enabled n es bs i = pushed n (pushed n bs (2 * i + 1) (first_head es i)) (2 * i + 2) (second_head es i)

-- Memory with record r taken out of the chain whose head is cell v, and its next index set to 0.
abbrev pub taken : ℕ → ℕ → List ℕ → ℕ → ℕ → List ℕ
taken n m bs r v = unlinked n bs r (holder n r v (chain n (word bs) m v))

-- Memory with both records of a link taken out of their chains.
abbrev pub disabled : ℕ → List Ends → List ℕ → ℕ → List ℕ
disabled n es bs i = taken n (2 * length es) (taken n (2 * length es) bs (2 * i + 1) (first_head es i)) (2 * i + 2) (second_head es i)

-- The chains K with record r at the front of that from head v.
abbrev pub front : ℕ → ℕ → (ℕ → List ℕ) → ℕ → List ℕ
front r v K u = cond (u == v) (r ∷ K u) (K u)

-- The chains K with record r taken out of that from head v.
abbrev pub back : ℕ → ℕ → (ℕ → List ℕ) → ℕ → List ℕ
back r v K u = cond (u == v) (without r (K u)) (K u)

-- What a port table keeps while links are enabled and disabled: its nodes, its wiring, and by its name the memory that it
-- was lent.
abbrev pub TableShape : Type 0
TableShape = ℕ × List Ends × GName

abbrev pub shape_of : ℕ → List Ends → GName → TableShape
shape_of n es memory = (n, es, memory)
