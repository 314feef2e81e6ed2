use Rattle.std.proofs.Common.{◌≡◌, ◌+◌, ◌≤◌, length, Err, ap, ◌∙◌, arith}
use Rattle.std.proofs.lemmas.Result.{err_from_is_err_and}
use Rattle.network.specs.Ends.{unless}
use Rattle.plans.specs.Network.{links_at}
use Rattle.places.specs.Pool.{nowhere, weights_of}
use Rattle.places.proofs.Names.{own-names}
use Rattle.places.proofs.Judging.{judged-granted, judged-refused}
use Rattle.places.proofs.Tracing.{tracks-start, held-length}
use Rattle.places.proofs.Traced.{traced-none, traced-refused, traced-link, traced-made, traced-granted, traced-all}
use Rattle.places.proofs.pool.trace.Goals as goal

pub loop-i-init : goal.loop-i-init
loop-i-init g c =
    let links = c.args.links.now in
    let batch = c.args.batch.now in
    let held = c.start.new.parent in
    let n : length held ≡ length links = c.start.auto.parent ∙ c.requires.tables.0 in
    let room : length links + length batch ≤ nowhere = omega (arith, c.requires.few) in
    let t = tracks-start links batch held c.note_states.new.present n (own-names held c.start.ensures) c.note_states.ensures in
    traced-none links batch room c.note_sources.new.sources held c.note_states.new.present t
    (omega (arith, c.requires.room, c.note_sources.auto.sources)) (λ x l. c.note_sources.ensures x (omega arith))

pub returns-in_err-check-clause-faults : goal.returns-in_err-check-clause-faults
returns-in_err-check-clause-faults g c =
    let links = c.args.links.now in
    let batch = c.args.batch.now in
    let l = c.loop-i in
    let room : length links + length batch ≤ nowhere = omega (arith, c.requires.few) in
    let f = judged-refused (l.i + 1) c.index-batch-i.result l.tracked.present.now (links_at links batch l.i) c.in_err-check.field-0.0 c.in_err-check.ensures l.invariant.tracks.state in
    let p = err_from_is_err_and c.from_residual.result c.from_residual.ensures.1 in
    p.1 ∙ ap Err p.2 ∙ ap (λ o. unless o tt)
    (traced-refused links batch room l.i l.sources l.tracked.held.now l.tracked.present.now l.invariant c.index-batch-i.result c.loop-i-test.true c.index-batch-i.is c.in_err-check.field-0.0 f)

pub make-requires : goal.make-requires
make-requires g c =
    let links = c.args.links.now in
    let batch = c.args.batch.now in
    let l = c.loop-i in
    let room : length links + length batch ≤ nowhere = omega (arith, c.requires.few) in
    let k = traced-link links batch room l.i l.sources l.tracked.held.now l.tracked.present.now l.invariant c.index-batch-i.result c.loop-i-test.true c.index-batch-i.is
    (judged-granted (l.i + 1) c.index-batch-i.result l.tracked.present.now (links_at links batch l.i) c.in_ok-check.ensures l.invariant.tracks.state) in
    let n = held-length (weights_of links batch) (links_at links batch l.i) l.tracked.held.now l.tracked.present.now l.invariant.tracks in
    (k.0, omega (arith, k.1))

pub loop-i-preserved : goal.loop-i-preserved
loop-i-preserved g c =
    let links = c.args.links.now in
    let batch = c.args.batch.now in
    let l = c.loop-i in
    let room : length links + length batch ≤ nowhere = omega (arith, c.requires.few) in
    traced-made links batch room l.i l.sources l.tracked.held.now l.tracked.present.now l.invariant c.index-batch-i.result c.loop-i-test.true c.index-batch-i.is
    (judged-granted (l.i + 1) c.index-batch-i.result l.tracked.present.now (links_at links batch l.i) c.in_ok-check.ensures l.invariant.tracks.state) c.make.result c.make.new.self.held.now c.make.new.self.present.now
    (omega (arith, c.requires.room, l.auto.sources)) c.make.ensures.source c.make.ensures.held c.make.ensures.present

pub returns : goal.returns
returns g c =
    let links = c.args.links.now in
    let batch = c.args.batch.now in
    let l = c.loop-i in
    let room : length links + length batch ≤ nowhere = omega (arith, c.requires.few) in
    record {
      faults = ap (λ o. unless o tt) (traced-granted links batch room l.i l.sources l.tracked.held.now l.tracked.present.now l.invariant c.loop-i-test.false);
      pooled = traced-all links batch room l.i l.sources l.tracked.held.now l.tracked.present.now l.invariant c.loop-i-test.false l.auto.i-end (l.auto.sources ∙ c.note_sources.auto.sources ∙ c.requires.room);
    }
