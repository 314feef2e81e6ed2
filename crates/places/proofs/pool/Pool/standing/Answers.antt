use Rattle.std.proofs.Common.{sym, ◌∙◌}
use Rattle.places.proofs.Weights.{sourced-at}
use Rattle.places.proofs.pool.Pool.standing.Goals as goal

pub returns : goal.returns
returns g c =
    let s = c.args.self.now in
    c.standing_at.ensures ∙ sym (sourced-at s.links.now s.batch.now s.sources.now c.args.i c.requires)
