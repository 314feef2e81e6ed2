use Rattle.std.proofs.Common.{◌≡◌, ℕ, Bool, List, length, ◌∙◌, arith}
use Rattle.forests.specs.Heap.{at, Sorted}
use Rattle.forests.proofs.Indexing.{indexes-shuffled}
use Rattle.places.proofs.Names.{own-names}
use Rattle.places.proofs.Numbering.{covers, numbers-tell}
use Rattle.places.proofs.places.give_places.Goals as goal

pub sort-requires : goal.sort-requires
sort-requires g c =
    let own = own-names c.start.new.parent c.start.ensures in
    record { indexes = λ k l. omega (arith, own k l, c.start.auto.parent, c.requires.size.0); ranks = c.requires.ranks }

pub number-requires : goal.number-requires
number-requires g c =
    let a = c.start.new.parent in
    let b = c.sort.new.order in
    let own = own-names a c.start.ensures in
    let n1 : length a ≡ length c.args.order.now = c.start.auto.parent in
    let n2 : length b ≡ length a = c.sort.auto.order in
    record {
      indexes = indexes-shuffled a b _ c.sort.ensures.shuffled (λ k l. omega (arith, own k l, c.requires.size.0));
      ranks = c.requires.ranks;
      size = (c.requires.size.1, omega (arith, c.requires.size.2, c.requires.size.0));
      sorted = rw n2 c.sort.ensures.sorted;
    }

pub returns : goal.returns
returns g c = λ i j li lj.
    let lt : ℕ → ℕ → Bool = g.R.Ranking.before c.args.ranking.now in
    let n : ℕ = g.R.Ranking.count c.args.ranking.now in
    let a : List ℕ = c.start.new.parent in
    let b : List ℕ = c.sort.new.order in
    let own = own-names a c.start.ensures in
    let n1 : length a ≡ length c.args.order.now = c.start.auto.parent in
    let n2 : length b ≡ length a = c.sort.auto.order in
    let so : Sorted lt (at b) 0 (length b) = rw n2 c.sort.ensures.sorted in
    let x = covers a b n c.sort.ensures.shuffled (n1 ∙ c.requires.size.0) own i li in
    let y = covers a b n c.sort.ensures.shuffled (n1 ∙ c.requires.size.0) own j lj in
    numbers-tell lt (at b) c.requires.ranks (length b) so c.number.new.places c.number.ensures i j x.0 y.0 x.1 y.1 x.2 y.2
