use Rattle.std.proofs.Common.{◌≡◌, true, false, get_or, take, Err, sym, ap, ◌∙◌}
use Rattle.network.specs.Ends.{unless}
use Rattle.player.specs.Start.{mem}
use Rattle.player.proofs.Places.{mem_new, any_mem}
use Rattle.player.proofs.Walks.{fault_twice, fault_next}
use Rattle.player.proofs.start.StartList.check.Goals as goal
use Rattle.player.proofs.start.StartList.check.Goals.{else-not-self-via-then-not-self+else-contains, else-not-self-via-else-not-self}

pub returns-then-contains : goal.returns-then-contains
returns-then-contains c =
    let xs = c.args.self.now.links.now in
    let i = c.loop-i.i in
    let e : mem (get_or xs i 0) (take i xs) ≡ true =
    sym (any_mem (get_or xs i 0) (take i xs)) ∙ sym c.contains.ensures.value ∙ c.if-contains.true in
    ap (λ f. Err f) c.into-then-contains.ensures
    ∙ ap (λ o. unless o tt)
    (sym (fault_twice c.args.m xs i c.loop-i-test.true c.if-link-eq0.false c.if-link-m.false e) ∙ c.loop-i.invariant)

pub loop-i-preserved : goal.loop-i-preserved
loop-i-preserved c =
    let xs = c.args.self.now.links.now in
    let i = c.loop-i.i in
    let new : mem (get_or xs i 0) (take i xs) ≡ false =
    elim c.else-not-self.branch [
      | else-not-self-via-then-not-self+else-contains w ↦
          sym (any_mem (get_or xs i 0) (take i xs)) ∙ sym w.contains.ensures.value ∙ w.if-contains.false
      | else-not-self-via-else-not-self w ↦ mem_new xs i (c.args.self.now.order w.if-not-self.false) c.loop-i-test.true
    ] in
    fault_next c.args.m xs i c.loop-i-test.true c.if-link-eq0.false c.if-link-m.false new ∙ c.loop-i.invariant
