use Rattle.std.proofs.Common.{◌∙◌, arith}
use Rattle.std.proofs.lemmas.List.{length-map, map-set}
use Rattle.block_records.specs.Words.{no_move, move_of, moves_in}
use Rattle.places.specs.Moves.{place_moves}
use Rattle.places.proofs.Commits.{filled_more, filled-all, moves-length, moves-told}
use Rattle.drawing.proofs.plan.list_moves.Goals as goal

pub loop-i-preserved : goal.loop-i-preserved
loop-i-preserved g c =
    let batch = c.args.batch.now in
    let ps = c.args.targets.now in
    let t = c.loop-i.moves in
    let i = c.loop-i.i in
    let n = moves-length batch ps c.requires.0 in
    let m = length-map t move_of in
    filled_more (moves_in t) (place_moves batch ps) _ i (move_of c.into.result) no_move (omega (arith, m, c.requires.1)) (omega arith) (map-set move_of t i c.into.result)
    (c.into.ensures ∙ moves-told batch ps i c.link_of.result c.index-batch-i.result no_move c.loop-i-test.true (omega (arith, c.requires.0)) c.index-batch-i.is c.link_of.ensures) c.loop-i.invariant

pub returns : goal.returns
returns g c =
    let batch = c.args.batch.now in
    let ps = c.args.targets.now in
    let t = c.loop-i.moves in
    let m = length-map t move_of in
    filled-all (moves_in t) (place_moves batch ps) c.loop-i.i (omega (arith, m, c.requires.1)) (omega (arith, m, c.requires.1, moves-length batch ps c.requires.0)) c.loop-i.invariant
