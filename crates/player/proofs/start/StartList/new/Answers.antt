use Rattle.std.proofs.Common.{ltb, sym, rules}
use Rattle.std.proofs.lemmas.Bool.{ltb-true}
use Rattle.std.proofs.lemmas.List.Kept.{AllPairs-from_increasing}
use Rattle.std.proofs.lemmas.List.Sorted.{answers_always}
use Rattle.player.proofs.start.StartList.new.Goals as goal

pub invariant_of-result : goal.invariant_of-result
invariant_of-result c = record {
  order = λ e.
      let up = rw e at c.is_sorted_by.ensures.cases in
      λ i j. AllPairs-from_increasing c.args.links.now
      (λ k l. ltb-true _ _ (sym (up ltb (answers_always _ _ _ (λ f a r h k. search rules)) k 0 l))) i j 0;
}
