-- The statements, proved.
use Rattle.std.proofs.Common.{sym, ◌∙◌}
use Rattle.graphs.specs.Theorems.{JoinsDecided, ForestKept, LinksCounted, LoopFreeFew, ForestLeast, TreesSpanning, ThinningKeeps}
use Rattle.graphs.proofs.Joined.{joins-walk, walk-joins, walk-joined, joined-walk, joined-sym, label-joined, label-least, joins-joined}
use Rattle.graphs.proofs.Kruskal.{forest-iff, forest-loopfree}
use Rattle.graphs.proofs.Count.{roots-loopfree, roots-any}
use Rattle.graphs.proofs.Rank.{rank}
use Rattle.graphs.proofs.Optimal.{forest-joins, forest-most}
use Rattle.graphs.proofs.Trees.{joined_length, all-joined, tree-size, forest-tree}
use Rattle.graphs.proofs.Thinned.{thinned-held, thinned-gone}
use Rattle.graphs.proofs.Size.{thinned-few, thinned-small}
use Rattle.graphs.proofs.Nodes.{thinned-apart, thinned-within}

pub joins-decided : JoinsDecided
joins-decided es = record {
  decided = λ x y. (joins-walk, walk-joins);
  reached = λ x. joined-walk es (joined-sym (label-joined es x));
  smallest = λ x y w. label-least es x y (walk-joined w);
}

pub forest-kept : ForestKept
forest-kept lt o es d = record { kept = forest-iff lt o es d; free = forest-loopfree lt es; same = forest-joins lt o es d }

pub links-counted : LinksCounted
links-counted n es w = record { free = roots-loopfree n es w; any = roots-any n es w }

pub loop-free-few : LoopFreeFew
loop-free-few A B d l s = rank A B d l (λ e i. joins-joined (s e i))

pub forest-least : ForestLeast
forest-least lt o es d A s u l = forest-most lt o es d A u l s

pub trees-spanning : TreesSpanning
trees-spanning n some es w d = record {
  size = tree-size n es w some;
  least = λ lt o. (λ t x y p q u v. sym (forest-joins lt o es d x y) ∙ t.joined x y p q u v, forest-tree n es d lt o);
  many = λ lt o. let j = joined_length n es w d lt o some in (j.1, j.0);
  test = all-joined n es some;
}

pub thinning-keeps : ThinningKeeps
thinning-keeps named lt g o d = record {
  kept = λ lt' s a k h. sym (thinned-held named lt g o (record { distinct = d }) s a k h);
  gone = λ lt' lt'' s s' a b k h.
      thinned-gone named lt g o (record { distinct = d }) s a k h ∙ sym (thinned-gone named lt g o (record { distinct = d }) s' b k h);
  few = thinned-few named lt g o (record { distinct = d });
  small = thinned-small named lt g o (record { distinct = d });
  apart = (thinned-apart named lt g o (record { distinct = d })).distinct;
  within = thinned-within named lt g o (record { distinct = d });
}
