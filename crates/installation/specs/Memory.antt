-- What stands in the memory that a caller lends, and that it is the same memory afterwards.
use Rattle.std.specs.Prelude.{◌≡◌, ℕ, length, None, Option, slice_index_or}
use Rattle.std.specs.Option.{option_map}
use Rattle.weights.specs.declared.order.Ordered
use Rattle.weights.specs.declared.weight.Weight
use Rattle.planner.specs.declared.book.Book.{Book}
use Rattle.planner.specs.declared.drawn.Drawn.{Drawn}
use Rattle.player.specs.Plan.{Sheet}
use Rattle.installation.specs.declared.memory.Memory.{Memory}
use Rattle.installation.specs.Slots.{width, part}

-- The plan in a slot as the player reads it: its counts, and the slot's part of the start list and of the entries.
abbrev pub sheet_in : {W : Type 0} → Memory W → ℕ → Drawn → Sheet
sheet_in memory slot d = record {
  n = d.n;
  m = d.m;
  k = d.k;
  start = part (width (length memory.plans.now) memory.start.now) slot memory.start.now;
  entries = part (width (length memory.plans.now) memory.entries.now) slot memory.entries.now;
}

abbrev pub sheet_at : {W : Type 0} → Memory W → ℕ → Option Sheet
sheet_at memory slot = option_map (sheet_in memory slot) (slice_index_or memory.plans.now slot None)

-- The tables are those that were lent, as long as they were, and the changes stand.
pub record SameTables {W : Type 0} (was now : Memory W) : Type 0 where
  pub plans : (now.plans.ghost_name ≡ was.plans.ghost_name) × (length now.plans.now ≡ length was.plans.now)
  pub changes : now.changes.now ≡ was.changes.now
  pub start : (now.start.ghost_name ≡ was.start.ghost_name) × (length now.start.now ≡ length was.start.now)
  pub entries : (now.entries.ghost_name ≡ was.entries.ghost_name) × (length now.entries.now ≡ length was.entries.now)
  pub work : (now.work.ghost_name ≡ was.work.ghost_name) × (length now.work.now ≡ length was.work.now)

-- The book is over the tables that it was over.
abbrev pub SameBook : {W : Type 0} {kind : Weight.Ghosts W} {order : Ordered.Ghosts W} → Book W kind order → Book W kind order → Type 0
SameBook was now = (now.links.ghost_name ≡ was.links.ghost_name) × (now.tree.ghost_name ≡ was.tree.ghost_name)
