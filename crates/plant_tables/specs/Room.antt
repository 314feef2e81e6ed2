-- Memory that was reserved for a reading.
use Rattle.std.specs.Prelude.{◌≡◌, ◌≤◌, vec_len, vec_capacity}
use Rattle.plant_tables.specs.declared.plant.Tables.{Tables}
use Rattle.plant_tables.specs.declared.room.Room.{Room}
use Rattle.plant_tables.specs.File.{seen, blank}
use Rattle.plant_tables.specs.Limits.{max_bytes, max_links, max_changes}

-- tables with memory for all the links and changes that a text may tell, each with its line
abbrev pub Roomy : {W : Type 0} → Tables W → Type 0
Roomy t =
    (max_links ≤ vec_capacity t.ends)
    × (max_links ≤ vec_capacity t.links)
    × (max_links ≤ vec_capacity t.link_lines)
    × (max_changes ≤ vec_capacity t.changes)
    × (max_changes ≤ vec_capacity t.change_lines)
    × (vec_len t.ends ≡ vec_len t.links)
    × (vec_len t.link_lines ≡ vec_len t.links)
    × (vec_len t.change_lines ≡ vec_len t.changes)

-- such tables, still empty
abbrev pub Reserved : {W : Type 0} → Tables W → Type 0
Reserved t = (seen t ≡ blank 0) × Roomy t

-- room for the numbers of any line, and for a plant of either kind
abbrev pub Ready : Room → Type 0
Ready r = (max_bytes ≤ vec_capacity r.numbers) × Reserved r.costs × Reserved r.classes
