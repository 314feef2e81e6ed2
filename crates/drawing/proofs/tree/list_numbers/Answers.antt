use Rattle.std.proofs.Common.{◌≡◌, map, sym, ap, ◌∙◌, arith}
use Rattle.std.proofs.lemmas.List.{take_all}
use Rattle.std.proofs.lemmas.List.Sorted.{IsNonDecreasingBy-from_sort}
use Rattle.block_records.specs.Words.{link_of}
use Rattle.drawing.proofs.Listing.{numbers-sorted}
use Rattle.drawing.proofs.tree.list_numbers.Goals as goal

pub returns : goal.returns
returns c =
    let t = c.args.links.now in
    let xs = c.loop-j.out in
    let e : xs ≡ map (λ w. (link_of w).number) t =
    sym (take_all c.loop-j.j xs (omega arith)) ∙ c.loop-j.invariant ∙ ap (map (λ w. (link_of w).number)) (take_all c.loop-j.j t (omega arith)) in
    numbers-sorted t xs c.sort_unstable.new.self c.requires.apart e c.sort_unstable.ensures.permutation c.sort_unstable.ensures.len
    (IsNonDecreasingBy-from_sort (λ x. x) c.sort_unstable.new.self c.sort_unstable.ensures.sorted)
