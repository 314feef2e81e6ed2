use Rattle.std.proofs.Common.{◌≡◌, ℕ, ◌<◌, ◌≤◌, not, map, length, get_or, take, filter}
use Rattle.block_records.specs.declared.Link.{Link}
use Rattle.block_records.specs.Words.{link_in, links_in}
use Rattle.thinning.specs.Marks.{flag}
use Rattle.thinning.proofs.marks.gather.Given as goal

abbrev pub invariant-loop-i : goal.invariant-loop-i
invariant-loop-i l =
    (l.k ≤ l.i) × ((j : ℕ) → j < l.k → get_or l.order j 0 < length l.links)
    × (map (link_in l.links) (take l.k l.order) ≡ filter (λ (e : Link). not (flag l.marks e.number)) (take l.i (links_in l.links)))
