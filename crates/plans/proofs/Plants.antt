-- The worked examples, by computation.
use Rattle.std.proofs.Common.{refl}
use Rattle.graphs.specs.Graph.{label}
use Rattle.graphs.specs.Forest.{ordered, placed, greedy, filtered}
use Rattle.graphs.specs.Spanning.{all_joined}
use Rattle.graphs.specs.Thin.{holds, reduced, mergeable, roots, relabel, contracted, thinned}
use Rattle.plans.specs.Places.{value_of, placed_at, moved_by}
use Rattle.plans.specs.Plan.{numbers, among, first_but, entries_by}
use Rattle.plans.specs.Work.{named, block_work_by, batch_work_by}
use Rattle.plans.specs.Network.{graph_from, altered, altered_link, moves_of, parted_from}
use Rattle.plans.specs.Worked.{Worked}

pub worked : Worked
unfolding label ordered placed greedy filtered all_joined holds reduced mergeable roots relabel contracted thinned value_of placed_at moved_by numbers among first_but entries_by named block_work_by batch_work_by graph_from altered altered_link moves_of parted_from
worked = record {
  plant-tree = refl;
  plant-plan = refl;
  plant-work = refl;
  plant-whole = refl;
  plant-parted = refl;
  alone-tree = refl;
  alone-work = refl;
  single-plan = refl;
  single-work = refl;
  parallel-plan = refl;
  parallel-work = refl;
  class-first = λ u v a b c d. rw (a, c) refl;
}
