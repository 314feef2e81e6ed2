-- The tables that a block works in.
use Rattle.std.specs.Prelude.{◌≡◌, ℕ, ◌+◌, ◌-◌, ◌*◌, ◌^◌, ◌<◌, ◌≤◌, length}
use Rattle.thinning.specs.Marks.{Blank}
use Rattle.blocks.specs.declared.tables.Tables.{Tables}

-- Tables for a block with these nodes, of a network with m links: two of marks, a word for each link number and one more, with nothing
-- marked, and one each for parents and new numbers, a word for each node and one more.
pub record Scratch (nodes m : ℕ) (t : Tables) : Type 0 where
  pub small : nodes < 2 ^ 32 - 1
  pub few : m ≤ 2 ^ 32
  pub marks-long : m < length t.marks.now
  pub chosen-long : m < length t.chosen.now
  pub parent-long : nodes < length t.parent.now
  pub name-long : nodes < length t.name.now
  pub marks-blank : Blank t.marks.now
  pub chosen-blank : Blank t.chosen.now

-- The room for entries and for copies of links, where a block of some changes receives some links: its own copy and two more to thin in,
-- and room for six links for each change, which serves all the blocks below it.
pub record Room (base changes out work : ℕ) : Type 0 where
  pub entries : out ≡ changes
  pub copies : 3 * base ≤ work
  pub deeper : base + 6 * changes ≤ work
