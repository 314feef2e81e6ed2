use Rattle.std.proofs.Common.{◌≡◌, take}
use Rattle.plans.specs.Network.{changed_by}
use Rattle.places.proofs.changes.change_links.Given as goal

abbrev pub invariant-loop-change : goal.invariant-loop-change
invariant-loop-change g l = l.links ≡ changed_by l.initial.links (take l.change-index l.batch)
