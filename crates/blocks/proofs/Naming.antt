-- The links that changes name, as numbers in a table.
use Rattle.std.proofs.Common.{◌≡◌, ℕ, ◌<◌, List, [], ◌∷◌, length, get_or, refl, ap, arith}
use Rattle.std.proofs.lemmas.List.{length-map, get_or-map}
use Rattle.block_records.specs.Words.{move_of, moves_in, numbers_in}
use Rattle.plans.specs.Plan.{among}
use Rattle.plans.specs.Work.{named}
use Rattle.thinning.proofs.Marking.{number_of}
use Rattle.blocks.specs.Block.{no_move, Known}

pub named-among : (k : ℕ) (table : List (List ℕ)) → named (moves_in table) k ≡ among k (numbers_in table)
unfolding named among
named-among k [] = refl
named-among k (words ∷ table) = let h = named-among k table in cc

pub known-numbers : (m n : ℕ) (table : List (List ℕ)) → Known m (moves_in table) → m < n → (i : ℕ) → i < length (numbers_in table) → get_or (numbers_in table) i 0 < n
known-numbers m n table h b i l =
    let s = length-map table number_of in
    let k = length-map table move_of in
    let a = get_or-map number_of table i [] 0 (omega arith) in
    let c = get_or-map move_of table i [] no_move (omega arith) in
    let d = h i (omega arith) in
    omega (arith, ap (λ v. v.link) c, d.1)
