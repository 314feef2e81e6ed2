use Rattle.std.proofs.Common.{◌≡◌, ◌+◌, length, None, arith}
use Rattle.network.proofs.Refusing.{refusal-is}
use Rattle.plans.specs.Network.{Sided}
use Rattle.places.specs.Changes.{changes_fault}
use Rattle.places.proofs.Judging.{granted-links}
use Rattle.drawing.proofs.Drawing.{targets-length, not-torn, told-plan}
use Rattle.drawing.proofs.sound.Network.draw_plan.Goals as goal

pub run-requires : goal.run-requires
run-requires g c =
    let net = c.args.self.now in
    let batch = c.args.batch.now in
    let o = g.met.W.Ordered in
    let side = g.W.Ordered.side in
    let laws : Sided side = record { level = o.level; mirrored = o.mirrored; back = o.back; passes = o.passes } in
    let sources = c.trace.new.sources in
    let places = c.place_pool.new.places in
    let own = c.split_at_mut-own.result.0.now in
    let targets = c.split_at_mut-own.result.1.now in
    let ok : None ≡ changes_fault 1 net.links.now batch = refusal-is _ _ _ c.in_ok-trace.ensures.faults in
    let traced = c.in_ok-trace.ensures.pooled in
    let size : length places ≡ length net.links.now + length batch + 1 = omega (arith, c.place_pool.auto.places, c.split_at_mut-places.ensures.front_len) in
    let front : length own ≡ length net.links.now = c.split_at_mut-own.ensures.front_len in
    let back : length targets ≡ length batch + 1 = omega (arith, size, c.split_at_mut-own.ensures.back_len) in
    let known = granted-links 1 net.links.now batch ok in
    record {
      known = λ i d l. let r = known i d l in (r.0, omega (arith, r.1, net.even));
      changes = (c.requires.changes, targets-length side laws net.n net.ends.now net.links.now batch sources places own targets net.nodes.0 net.ends_known net.even c.requires.joined traced c.place_pool.ensures c.split_at_mut-own.ensures.value front back, omega (arith, front, net.even));
      whole = not-torn side laws net.n net.ends.now net.links.now batch sources places own targets net.nodes.0 net.ends_known net.even c.requires.joined traced c.place_pool.ensures c.split_at_mut-own.ensures.value front back;
      room = (
        c.requires.room.0,
        omega (
          arith,
          c.requires.room.1,
          net.even,
          c.split_at_mut-sources.ensures.back_len,
          c.split_at_mut-order.ensures.back_len,
          c.split_at_mut-places.ensures.back_len,
          c.split_at_mut-held.ensures.back_len,
          c.split_at_mut-present.ensures.back_len,
        ),
      );
    }

pub returns : goal.returns
returns g c =
    let net = c.args.self.now in
    let batch = c.args.batch.now in
    let o = g.met.W.Ordered in
    let side = g.W.Ordered.side in
    let laws : Sided side = record { level = o.level; mirrored = o.mirrored; back = o.back; passes = o.passes } in
    let sources = c.trace.new.sources in
    let places = c.place_pool.new.places in
    let own = c.split_at_mut-own.result.0.now in
    let targets = c.split_at_mut-own.result.1.now in
    let ok : None ≡ changes_fault 1 net.links.now batch = refusal-is _ _ _ c.in_ok-trace.ensures.faults in
    let traced = c.in_ok-trace.ensures.pooled in
    let size : length places ≡ length net.links.now + length batch + 1 = omega (arith, c.place_pool.auto.places, c.split_at_mut-places.ensures.front_len) in
    let front : length own ≡ length net.links.now = c.split_at_mut-own.ensures.front_len in
    let back : length targets ≡ length batch + 1 = omega (arith, size, c.split_at_mut-own.ensures.back_len) in
    let p = told-plan side laws net.n net.ends.now net.links.now batch sources places own targets net.nodes.0 net.ends_known net.even c.requires.joined traced c.place_pool.ensures c.split_at_mut-own.ensures.value front back c.run.result c.run.new.out ok c.run.ensures.answer c.run.ensures.entries in
    record { answer = p.answer; entries = p.entries }
