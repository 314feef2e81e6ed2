use Rattle.std.proofs.Common.{◌≡◌, length, arith}
use Rattle.std.proofs.lemmas.List.{length-map}
use Rattle.plans.specs.Network.{Sided}
use Rattle.places.specs.Pool.{weights_of, told_by, sourced}
use Rattle.places.specs.Ranks.{ranks-standings}
use Rattle.places.proofs.Pooled.{places-compared}
use Rattle.places.proofs.pool.place_pool.Goals as goal

pub give_places-requires-clause-ranks : goal.give_places-requires-clause-ranks
give_places-requires-clause-ranks g c =
    let m = g.met.W.Ordered in
    let pool = c.args.pool.now in
    ranks-standings g.W.Ordered.side (record { level = m.level; mirrored = m.mirrored; back = m.back; passes = m.passes }) (sourced pool.links.now pool.batch.now pool.sources.now)

pub returns : goal.returns
returns g c = λ i j li lj.
    let m = g.met.W.Ordered in
    let side = g.W.Ordered.side in
    let laws : Sided side = record { level = m.level; mirrored = m.mirrored; back = m.back; passes = m.passes } in
    let links = c.args.pool.now.links.now in
    let batch = c.args.pool.now.batch.now in
    let sources = c.args.pool.now.sources.now in
    let n : length (sourced links batch sources) ≡ length sources = length-map sources (told_by (weights_of links batch)) in
    places-compared side laws (sourced links batch sources) c.give_places.new.places
    (λ a b la lb. c.give_places.ensures a b (omega arith) (omega arith)) i j (omega arith) (omega arith)
