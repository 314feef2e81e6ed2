-- Thinning keeps the least forests, and is small.
use Rattle.std.proofs.Common.{ℕ, ◌*◌, ◌≤◌, List, [], ◌∷◌, length, arith}
use Rattle.block_records.specs.declared.Link.{Link}
use Rattle.graphs.specs.Forest.{Distinct}
use Rattle.graphs.specs.Thin.{Block}
use Rattle.graphs.specs.Thinning.{chosen, merges}
use Rattle.graphs.proofs.Thinned.{thinned-same, thinned-unmerged}
use Rattle.graphs.proofs.Size.{chosen_none, chosen_more, thinned-small}
use Rattle.graphs.proofs.Nodes.{thinned-apart}
use Rattle.block_records.specs.declared.Move.{Move}
use Rattle.plans.specs.Places.{Scale, Lawful, before_by, by_place, place_before}
use Rattle.plans.specs.Work.{named, thinned_by, thinned_for}
use Rattle.plans.proofs.Orders.{strict-by, lawful-places}
use Rattle.plans.proofs.Halves.{KeepsBy, Keeps}

named-few : {V : Type 0} (cs : List (Move V)) (es : List Link) → Distinct es → length (chosen (named cs) es) ≤ length cs
unfolding named
named-few [] es d = omega (arith, chosen_none es)
named-few (c ∷ cs) es d = omega (arith, chosen_more c.link (named cs) es d, named-few cs es d)

module _ {V : Type 0} (s : Scale V) (l : Lawful s) (table : List V) (cs : List (Move V)) (g : Block) (d : Distinct g.links) where
  pub keeps-thinned-by : KeepsBy s table cs g (merges (named cs) (before_by s table) g)
  keeps-thinned-by =
      record {
        same = λ ps a k. thinned-same (named cs) (before_by s table) g (strict-by s l table) (record { distinct = d })
            (strict-by s l ps) (record { same = a }) k;
        unmerged = thinned-unmerged (named cs) (before_by s table) g (strict-by s l table) (record { distinct = d });
      }

  pub small-thinned-by : (length (thinned_by s table cs g).links ≤ 2 * length cs) × Distinct (thinned_by s table cs g).links
  small-thinned-by = (
    omega (arith, thinned-small (named cs) (before_by s table) g (strict-by s l table) (record { distinct = d }), named-few cs g.links d),
    (thinned-apart (named cs) (before_by s table) g (strict-by s l table) (record { distinct = d })).distinct,
  )

-- By places.
pub keeps-thinned : (places : List ℕ) (cs : List (Move ℕ)) (g : Block) → Distinct g.links
    → Keeps places cs g (merges (named cs) (place_before places) g)
keeps-thinned = keeps-thinned-by by_place lawful-places

pub small-thinned : (places : List ℕ) (cs : List (Move ℕ)) (g : Block) → Distinct g.links
    → (length (thinned_for places cs g).links ≤ 2 * length cs) × Distinct (thinned_for places cs g).links
small-thinned = small-thinned-by by_place lawful-places
