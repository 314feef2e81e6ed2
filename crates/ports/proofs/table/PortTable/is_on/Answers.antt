use Rattle.std.proofs.Common.{◌≡◌, ◌+◌, ◌*◌, length, is_some, sym, ap, ◌∙◌, arith}
use Rattle.port_layout.specs.Chains.{found}
use Rattle.port_layout.specs.Words.{word}
use Rattle.port_layout.specs.Ports.{first_head}
use Rattle.port_layout.proofs.Facts.{table_of}
use Rattle.port_layout.proofs.Tables.{flag_at}
use Rattle.port_layout.proofs.Walks.{found_some}
use Rattle.ports.proofs.table.PortTable.is_on.Goals as goal

pub head-requires : goal.head-requires
head-requires c =
    let s = c.args.self.now in
    ((table_of s.n s.ends.now s.bytes.now s.table).joins c.args.i c.requires).first-is

pub find-requires : goal.find-requires
find-requires c =
    let s = c.args.self.now in
    let t = table_of s.n s.ends.now s.bytes.now s.table in
    let j = t.joins c.args.i c.requires in
    let e = c.chains.ensures in
    record {
      room = omega (arith, t.room);
      small = λ p l. let a = t.sound.small p (omega (arith, l, e)) in omega (arith, a, e);
      starts = omega (arith, j.first-is, j.first-in);
      named = omega arith;
    }

pub returns : goal.returns
returns c =
    let s = c.args.self.now in
    let v : c.find.result ≡ found s.n (word s.bytes.now) (2 * length s.ends.now) (first_head s.ends.now c.args.i) (2 * c.args.i + 1) = cc in
    c.is_some.ensures ∙ ap is_some v ∙ found_some s.n (word s.bytes.now) (2 * length s.ends.now) (first_head s.ends.now c.args.i) (2 * c.args.i + 1)
    ∙ sym (flag_at s.n s.ends.now s.bytes.now c.args.i c.requires)
