-- A plan as it is read.
use Rattle.std.specs.Prelude.{ℕ, ◌-◌, Bool, true, cond, List, length, take, ◌==◌, nat_lt, slice_index_or}
use Rattle.player.specs.declared.plan.Plan.{Plan}

-- What a plan says, apart from where its tables lie: k changes for n nodes and m links, the start list in the first n - 1
-- places of `start`, and the entries, a leaving and a coming link each, in the first k of `entries`.
pub record Sheet : Type 0 where
  pub n : ℕ
  pub m : ℕ
  pub k : ℕ
  pub start : List ℕ
  pub entries : List (ℕ × ℕ)

abbrev pub sheet : Plan → Sheet
sheet p = record { n = p.n; m = p.m; k = p.k; start = p.start.now; entries = p.entries.now }

-- The start list.
abbrev pub starts : Sheet → List ℕ
starts s = take (s.n - 1) s.start

-- The entry that leads from moment t to the next.
abbrev pub entry : Sheet → ℕ → ℕ × ℕ
entry s t = slice_index_or s.entries t (0, 0)

-- Whether a plan has no nodes, or tables that are too short.
abbrev pub unfit : Sheet → Bool
unfit s = cond (s.n == 0) true (cond (nat_lt (length s.start) (s.n - 1)) true (nat_lt (length s.entries) s.k))
