use Rattle.std.proofs.Common.{◌≡◌, ◌+◌, List, length, ◌∙◌, sym, ap₂, arith}
use Rattle.std.proofs.lemmas.Bool.{ltb-true}
use Rattle.block_records.specs.declared.Link.{Link}
use Rattle.block_records.specs.declared.Move.{Move}
use Rattle.block_records.specs.Words.{links_in, moves_in}
use Rattle.plans.specs.Network.{graph_of}
use Rattle.plans.specs.Plan.{entries}
use Rattle.plans.specs.Work.{work}
use Rattle.places.specs.Moves.{place_moves}
use Rattle.places.proofs.Names.{own-names}
use Rattle.drawing.proofs.Fits.{ends-between}
use Rattle.drawing.proofs.Running.{all_laid, run_sound, tear-told, tear-some, told-parted, told-whole}
use Rattle.drawing.proofs.sound.Network.run.Goals as goal

pub lay_out-requires-clause-named : goal.lay_out-requires-clause-named
lay_out-requires-clause-named g c = own-names c.start-2.new.parent c.start-2.ensures

pub lay_out-requires-clause-ends : goal.lay_out-requires-clause-ends
lay_out-requires-clause-ends g c = λ i l.
    let net = c.args.self.now in
    let e = ends-between net.n 1 net.ends.now net.ends_known i l in
    let b : length c.start-2.new.parent ≡ net.n + 1 = omega (arith, c.start-2.auto.parent, c.split_at_mut-names.ensures.front_len) in
    (omega (arith, b, e.0), omega (arith, b, e.1))

pub batch-tally-requires-clause-sound : goal.batch-tally-requires-clause-sound
batch-tally-requires-clause-sound g c =
    let net = c.args.self.now in
    let batch = c.args.batch.now in
    let ps = c.args.targets.now in
    let order = c.start.new.parent in
    let a : length order ≡ length net.ends.now = omega (arith, c.start.auto.parent, c.split_at_mut-order.ensures.front_len) in
    let es : links_in c.lay_out.new.out ≡ graph_of net.ends.now = c.lay_out.ensures ∙ all_laid net.ends.now order a (own-names order c.start.ensures) in
    let ms : moves_in c.list_moves.new.moves ≡ place_moves batch ps = c.list_moves.ensures in
    run_sound net.n net.ends.now batch ps _ _ _ es ms c.requires.changes.2 net.ends_known c.requires.known

pub overflow_cast-result : goal.overflow_cast-result
overflow_cast-result g c =
    let net = c.args.self.now in
    let batch = c.args.batch.now in
    let ps = c.args.targets.now in
    let order = c.start.new.parent in
    let a : length order ≡ length net.ends.now = omega (arith, c.start.auto.parent, c.split_at_mut-order.ensures.front_len) in
    let es : links_in c.lay_out.new.out ≡ graph_of net.ends.now = c.lay_out.ensures ∙ all_laid net.ends.now order a (own-names order c.start.ensures) in
    let ms : moves_in c.list_moves.new.moves ≡ place_moves batch ps = c.list_moves.ensures in
    let t = tear-told c.args.absent c.args.places.now net.ends.now batch ps _ _ es ms c.requires.changes.1 c.batch-tally.result c.requires.whole c.batch-tally.ensures.tear in
    let s = tear-some _ _ _ (sym c.in-Some.is ∙ t) in
    omega (arith, ltb-true _ _ s.0, s.1, c.requires.changes.0)

pub overflow_add-result : goal.overflow_add-result
overflow_add-result g c =
    let net = c.args.self.now in
    let batch = c.args.batch.now in
    let ps = c.args.targets.now in
    let order = c.start.new.parent in
    let a : length order ≡ length net.ends.now = omega (arith, c.start.auto.parent, c.split_at_mut-order.ensures.front_len) in
    let es : links_in c.lay_out.new.out ≡ graph_of net.ends.now = c.lay_out.ensures ∙ all_laid net.ends.now order a (own-names order c.start.ensures) in
    let ms : moves_in c.list_moves.new.moves ≡ place_moves batch ps = c.list_moves.ensures in
    let t = tear-told c.args.absent c.args.places.now net.ends.now batch ps _ _ es ms c.requires.changes.1 c.batch-tally.result c.requires.whole c.batch-tally.ensures.tear in
    let s = tear-some _ _ _ (sym c.in-Some.is ∙ t) in
    omega (arith, ltb-true _ _ s.0, s.1, c.requires.changes.0)

pub returns-in-Some : goal.returns-in-Some
returns-in-Some g c =
    let net = c.args.self.now in
    let batch = c.args.batch.now in
    let ps = c.args.targets.now in
    let order = c.start.new.parent in
    let a : length order ≡ length net.ends.now = omega (arith, c.start.auto.parent, c.split_at_mut-order.ensures.front_len) in
    let es : links_in c.lay_out.new.out ≡ graph_of net.ends.now = c.lay_out.ensures ∙ all_laid net.ends.now order a (own-names order c.start.ensures) in
    let ms : moves_in c.list_moves.new.moves ≡ place_moves batch ps = c.list_moves.ensures in
    let t = tear-told c.args.absent c.args.places.now net.ends.now batch ps _ _ es ms c.requires.changes.1 c.batch-tally.result c.requires.whole c.batch-tally.ensures.tear in
    record {
      entries = c.batch-tally.ensures.entries ∙ ap₂ (λ (x : List Link) (y : List (Move _)). entries c.args.places.now x y) es ms;
      answer = told-parted _ _ _ _ (sym c.in-Some.is ∙ t);
    }

pub returns-in-None : goal.returns-in-None
returns-in-None g c =
    let net = c.args.self.now in
    let batch = c.args.batch.now in
    let ps = c.args.targets.now in
    let order = c.start.new.parent in
    let a : length order ≡ length net.ends.now = omega (arith, c.start.auto.parent, c.split_at_mut-order.ensures.front_len) in
    let es : links_in c.lay_out.new.out ≡ graph_of net.ends.now = c.lay_out.ensures ∙ all_laid net.ends.now order a (own-names order c.start.ensures) in
    let ms : moves_in c.list_moves.new.moves ≡ place_moves batch ps = c.list_moves.ensures in
    let t = tear-told c.args.absent c.args.places.now net.ends.now batch ps _ _ es ms c.requires.changes.1 c.batch-tally.result c.requires.whole c.batch-tally.ensures.tear in
    record {
      entries = c.batch-tally.ensures.entries ∙ ap₂ (λ (x : List Link) (y : List (Move _)). entries c.args.places.now x y) es ms;
      answer = told-whole _ _ _ _ (sym c.in-None.is ∙ t)
          (c.batch-tally.ensures.count ∙ ap₂ (λ (x : List Link) (y : List (Move _)). work c.args.places.now (record { nodes = net.n; links = x }) y) es ms);
    }
