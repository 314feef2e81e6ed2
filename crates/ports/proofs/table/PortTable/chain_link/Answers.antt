use Rattle.std.proofs.Common.{◌≡◌, sym, ap, ◌∙◌, subst, arith}
use Rattle.port_layout.specs.Ports.{Table, flags, enabled}
use Rattle.port_layout.proofs.Facts.{table_of}
use Rattle.port_layout.proofs.Tables.{flag_at}
use Rattle.port_layout.proofs.Turns.{enabled-flags, enabled-table}
use Rattle.ports.proofs.table.PortTable.chain_link.Goals as goal

pub head-requires : goal.head-requires
head-requires c =
    let s = c.args.self.now in
    ((table_of s.n s.ends.now s.bytes.now s.table).joins c.args.i c.requires.within).first-is

pub push-requires : goal.push-requires
push-requires c =
    let s = c.args.self.now in
    let t = table_of s.n s.ends.now s.bytes.now s.table in
    let j = t.joins c.args.i c.requires.within in
    let l = c.requires.within in (
      omega (arith, t.room, l),
      (omega arith, (omega (arith, t.links, l), omega (arith, j.first-is, j.first-in))),
    )

pub head-requires-2 : goal.head-requires-2
head-requires-2 c =
    let s = c.args.self.now in
    ((table_of s.n s.ends.now s.bytes.now s.table).joins c.args.i c.requires.within).second-is

pub push-requires-2 : goal.push-requires-2
push-requires-2 c =
    let s = c.args.self.now in
    let t = table_of s.n s.ends.now s.bytes.now s.table in
    let j = t.joins c.args.i c.requires.within in
    let l = c.requires.within in (
      omega (arith, t.room, l),
      (omega arith, (omega (arith, t.links, l), omega (arith, j.second-is, j.second-in))),
    )

pub invariant_of-self : goal.invariant_of-self
invariant_of-self c =
    let s = c.args.self.now in
    let t = table_of s.n s.ends.now s.bytes.now s.table in
    let i = c.args.i in
    let off = sym (flag_at s.n s.ends.now s.bytes.now i c.requires.within) ∙ c.requires.off in
    let e : c.push-2.new.bytes ≡ enabled s.n s.ends.now s.bytes.now i = cc in
    record { table = ∣ subst (Table s.n s.ends.now) (sym e) (enabled-table s.n s.ends.now s.bytes.now t i c.requires.within off) ∣₁ }

pub returns-clause-carrying : goal.returns-clause-carrying
returns-clause-carrying c =
    let s = c.args.self.now in
    let t = table_of s.n s.ends.now s.bytes.now s.table in
    let i = c.args.i in
    let off = sym (flag_at s.n s.ends.now s.bytes.now i c.requires.within) ∙ c.requires.off in
    let e : c.push-2.new.bytes ≡ enabled s.n s.ends.now s.bytes.now i = cc in
    ap (flags s.n s.ends.now) e ∙ enabled-flags s.n s.ends.now s.bytes.now t i c.requires.within off
