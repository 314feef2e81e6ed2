-- Tables that are cut into equal parts, one for each slot.
use Rattle.std.specs.Prelude.{◌≡◌, ℕ, zero, suc, ◌*◌, ◌/◌, ◌<◌, List, [], ◌++◌, length, take, drop, Some, None, Option}

-- How long a slot's part of a table is, where there are so many slots.
abbrev pub width : {X : Type 0} → ℕ → List X → ℕ
width slots xs = length xs / slots

-- The part of slot s, where a part has w items.
abbrev pub part : {X : Type 0} → ℕ → ℕ → List X → List X
part w s xs = take w (drop (s * w) xs)

-- What was written, or else what was there.
abbrev pub or_kept : {X : Type 0} → Option X → X → X
or_kept None was = was
or_kept (Some x) was = x

-- The parts of slots 0 to k - 1, one after another.
abbrev pub parts : {X : Type 0} → (ℕ → List X) → ℕ → List X
parts f zero = []
parts f (suc k) = parts f k ++ f k

-- A table in whose parts something was written or not, and whose rest is as it was.
abbrev pub table_now : {X : Type 0} → ℕ → (ℕ → Option (List X)) → List X → List X
table_now slots written was =
    parts (λ s. or_kept (written s) (part (width slots was) s was)) slots ++ drop (slots * width slots was) was

-- The same, part by part.
pub record Table {X : Type 0} (slots : ℕ) (written : ℕ → Option (List X)) (was now : List X) : Type 0 where
  pub long : length now ≡ length was
  pub part-is : (s : ℕ) → s < slots → part (width slots was) s now ≡ or_kept (written s) (part (width slots was) s was)
  pub rest-is : drop (slots * width slots was) now ≡ drop (slots * width slots was) was
