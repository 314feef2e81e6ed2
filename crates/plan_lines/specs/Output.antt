-- The lines of a plan, without the byte 10 that ends each.
use Rattle.std.specs.Prelude.{ℕ, List, [], ◌∷◌, ◌++◌, codes, decimal}

-- numbers, each after a space
abbrev pub spaced : List ℕ → List ℕ
spaced [] = []
spaced (n ∷ ns) = codes " " ++ (decimal n ++ spaced ns)

-- the links of the start tree; an empty tree prints the word alone
abbrev pub tree_line : List ℕ → List ℕ
tree_line links = codes "TREE" ++ spaced links

-- a change, the link that leaves and the link that comes, or 0 and 0
abbrev pub entry_line : ℕ → ℕ → ℕ → List ℕ
entry_line change leaving coming = decimal change ++ (codes " " ++ (decimal leaving ++ (codes " " ++ decimal coming)))

-- the work count
abbrev pub work_line : ℕ → List ℕ
work_line work = codes "WORK " ++ decimal work
