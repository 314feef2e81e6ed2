use Rattle.std.proofs.Common.{sym, ap, ◌∙◌, ap₂, arith}
use Rattle.std.proofs.lemmas.List.{length-map}
use Rattle.block_records.specs.Words.{link_of, links_in}
use Rattle.leaves.specs.Leaf.{winner}
use Rattle.leaves.proofs.Leaves.{leaf-entry, moved-is, told, told-level, told-apart}
use Rattle.leaves.proofs.single.Thinned.leaf.Goals as goal

pub returns-then-was-is : goal.returns-then-was-is
returns-then-was-is c =
    let L = links_in c.args.self.links.now in
    let m = moved-is c.args.places.now c.args.change c.requires.known.0 in
    record {
      places = m;
      entry = told-level c.winner-was.result c.winner-is.result c.if-was-is.true
          ∙ ap₂ told c.winner-was.ensures (c.winner-is.ensures ∙ ap (λ p. winner p L) m) ∙ sym (leaf-entry _ _ L (omega (arith, length-map c.args.self.links.now link_of)) c.args.self.ascends);
    }

pub returns-else-was-is : goal.returns-else-was-is
returns-else-was-is c =
    let L = links_in c.args.self.links.now in
    let m = moved-is c.args.places.now c.args.change c.requires.known.0 in
    record {
      places = m;
      entry = told-apart c.winner-was.result c.winner-is.result c.if-was-is.false
          ∙ ap₂ told c.winner-was.ensures (c.winner-is.ensures ∙ ap (λ p. winner p L) m) ∙ sym (leaf-entry _ _ L (omega (arith, length-map c.args.self.links.now link_of)) c.args.self.ascends);
    }
