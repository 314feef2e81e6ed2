-- What a plant is told to be, and what a line adds to it: links, then changes.
use Rattle.std.specs.Prelude.{ℕ, Bool, true, false, cond, List, [], ◌∷◌, ◌++◌, length, Ok, Err, vec_items, Result, nat_lt}
use Rattle.faults.specs.declared.TextFault.{TextFault}
use Rattle.faults.specs.declared.TextFault.TheVariants.{OutOfPlace, OverCount}
use Rattle.network.specs.declared.types.Change.{Change}
use Rattle.network.specs.declared.types.Ends.{Ends}
use Rattle.network.specs.declared.types.LinkState.{LinkState}
use Rattle.plant_lines.specs.declared.item.Item.{Item}
use Rattle.plant_lines.specs.declared.item.Item.TheVariants as item
use Rattle.plant_tables.specs.declared.plant.Tables.{Tables}
use Rattle.plant_tables.specs.Limits.{max_links, max_changes}

-- A plant of n nodes, its links, and the changes of them. link_lines has the line of each link, change_lines that of
-- each change.
pub record File (W : Type 0) : Type 0 where
  pub n : ℕ
  pub ends : List Ends
  pub links : List (LinkState W)
  pub link_lines : List ℕ
  pub changes : List (Change W)
  pub change_lines : List ℕ

-- what the tables of the code hold
abbrev pub seen : {W : Type 0} → Tables W → File W
seen t = record { n = t.n; ends = vec_items t.ends; links = vec_items t.links; link_lines = vec_items t.link_lines; changes = vec_items t.changes; change_lines = vec_items t.change_lines }

-- go on with the value, or stop at the fault
abbrev pub then : {X Y : Type 0} → Result X TextFault → (X → Result Y TextFault) → Result Y TextFault
then (Ok x) f = f x
then (Err e) f = Err e

-- whether nothing is in the list
abbrev pub none : {X : Type 0} → List X → Bool
none [] = true
none (x ∷ xs) = false

module _ {W : Type 0} where
  -- n nodes, no link, no change
  abbrev pub blank : ℕ → File W
  blank n = record { n = n; ends = []; links = []; link_lines = []; changes = []; change_lines = [] }

  -- one more link, present, told by line i
  abbrev pub with_link : File W → ℕ → Ends → W → File W
  with_link f i e w = record {
    n = f.n;
    ends = f.ends ++ e ∷ [];
    links = f.links ++ (record { weight = w; present = true }) ∷ [];
    link_lines = f.link_lines ++ i ∷ [];
    changes = f.changes;
    change_lines = f.change_lines;
  }

  -- one more change, told by line i
  abbrev pub with_change : File W → ℕ → Change W → File W
  with_change f i c = record {
    n = f.n;
    ends = f.ends;
    links = f.links;
    link_lines = f.link_lines;
    changes = f.changes ++ c ∷ [];
    change_lines = f.change_lines ++ i ∷ [];
  }

  -- a link on line i: it is out of place after a change, and over the count after 64 links
  abbrev pub linked : File W → ℕ → Ends → W → Result (File W) TextFault
  linked f i e w = cond (none f.changes) (cond (nat_lt (length f.links) max_links) (Ok (with_link f i e w)) (Err (OverCount i))) (Err (OutOfPlace i))

  -- a change on line i: it is over the count after 128 changes
  abbrev pub changed : File W → ℕ → Change W → Result (File W) TextFault
  changed f i c = cond (nat_lt (length f.changes) max_changes) (Ok (with_change f i c)) (Err (OverCount i))

  -- what line i tells, added to the file; a second N or P line is out of place
  abbrev pub placed : File W → ℕ → Item W → Result (File W) TextFault
  placed f i (item.Head k n) = Err (OutOfPlace i)
  placed f i (item.Link e w) = linked f i e w
  placed f i (item.Change c) = changed f i c
