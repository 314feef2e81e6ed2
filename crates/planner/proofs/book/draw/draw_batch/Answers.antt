use Rattle.std.proofs.Common.{◌≡◌, ℕ, ◌+◌, ◌*◌, length, ap, ◌∙◌, ap₂}
use Rattle.std.proofs.lemmas.Result.{err_from_is_err_and}
use Rattle.plans.specs.Network.{Sided, work_count}
use Rattle.places.proofs.Commits.{changed-length}
use Rattle.places.proofs.Judging.{granted-links}
use Rattle.drawing.specs.Tables.{tables_fault, joined}
use Rattle.planner.proofs.Granting.{network-sound, network-fit, sound-network, unless-err, tree-filled, granted-batch}
use Rattle.planner.proofs.Truths.{granted-truth, refused-truth}
use Rattle.planner.proofs.book.draw.draw_batch.Goals as goal

pub returns-in_err-count-clause-truth : goal.returns-in_err-count-clause-truth
returns-in_err-count-clause-truth g c =
    let n = c.args.n in
    let ends = c.args.ends.now in
    let links = c.args.links.now in
    let o = g.met.W.Ordered in
    let side = g.W.Ordered.side in
    let laws : Sided side = record { level = o.level; mirrored = o.mirrored; back = o.back; passes = o.passes } in
    let net = network-sound n ends links (length c.args.tree.now) c.requires in
    let fit = network-fit n ends links (length c.args.tree.now) c.requires in
    let p = err_from_is_err_and c.from_residual-in_err-count.result c.from_residual-in_err-count.ensures.1 in
    rw (p.1, p.2) (refused-truth side laws n ends links c.args.batch.now fit.some fit.ends net.1 _ (unless-err _ _ _ c.in_err-count.ensures.answer))

pub change_links-requires : goal.change_links-requires
change_links-requires g c =
    let n = c.args.n in
    let ends = c.args.ends.now in
    let links = c.args.links.now in
    let net = network-sound n ends links (length c.args.tree.now) c.requires in
    granted-links 1 links c.args.batch.now (granted-batch n ends links c.args.batch.now (work_count g.W.Ordered.side n ends links c.args.batch.now) c.in_ok-count.count net.1 c.in_ok-count.ensures.answer).0.changes

pub returns-clause-tree : goal.returns-clause-tree
returns-clause-tree g c =
    let n = c.args.n in
    let ends = c.args.ends.now in
    let links = c.args.links.now in
    let net = network-sound n ends links (length c.args.tree.now) c.requires in
    let r = (granted-batch n ends links c.args.batch.now (work_count g.W.Ordered.side n ends links c.args.batch.now) c.in_ok-count.count net.1 c.in_ok-count.ensures.answer).0 in
    tree-filled g.W.Ordered.side n ends _ c.change_links.new.links c.least_tree-2.result c.args.tree.now c.least_tree-2.new.tree
    c.change_links.ensures c.least_tree-2.ensures.joined r.after c.least_tree-2.ensures.tree

pub returns-clause-truth : goal.returns-clause-truth
returns-clause-truth g c =
    let n = c.args.n in
    let ends = c.args.ends.now in
    let links = c.args.links.now in
    let o = g.met.W.Ordered in
    let side = g.W.Ordered.side in
    let laws : Sided side = record { level = o.level; mirrored = o.mirrored; back = o.back; passes = o.passes } in
    let net = network-sound n ends links (length c.args.tree.now) c.requires in
    let fit = network-fit n ends links (length c.args.tree.now) c.requires in
    let r = granted-batch n ends links c.args.batch.now (work_count g.W.Ordered.side n ends links c.args.batch.now) c.in_ok-count.count net.1 c.in_ok-count.ensures.answer in
    granted-truth side laws n ends links c.args.batch.now fit.some fit.ends net.1 _ r.0.whole r.1

pub returns-clause-sound : goal.returns-clause-sound
returns-clause-sound g c =
    let n = c.args.n in
    let ends = c.args.ends.now in
    let links = c.args.links.now in
    let batch = c.args.batch.now in
    let net = network-sound n ends links (length c.args.tree.now) c.requires in
    let r = (granted-batch n ends links batch (work_count g.W.Ordered.side n ends links batch) c.in_ok-count.count net.1 c.in_ok-count.ensures.answer).0 in
    let same : length c.change_links.new.links ≡ length links = ap length c.change_links.ensures ∙ changed-length links batch in
    sound-network n ends _ _ (ap₂ (λ (l t : ℕ). tables_fault n ends l t (64 * (n + length ends))) same c.least_tree-2.auto.tree ∙ net.0)
    (ap (joined n ends) c.change_links.ensures ∙ r.after)
