use Rattle.std.proofs.Common.{◌≡◌, ◌<◌, true, []}
use Rattle.player.specs.Start.{Parts}
use Rattle.player.proofs.Only.{Judged}
use Rattle.player.proofs.laying.survey.Given as goal

abbrev pub invariant-loop-link : goal.invariant-loop-link
invariant-loop-link g l =
    Judged l.m [] (g.F.Fabric.carrying l.fabric) l.link l.found.blank
    × Judged l.m l.list.links.now (g.F.Fabric.carrying l.fabric) l.link l.found.exact
    × (l.at < l.link)
    × (l.list.ascending ≡ true → Parts l.list.links.now l.at l.link)
