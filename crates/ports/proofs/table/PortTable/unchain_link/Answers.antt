use Rattle.std.proofs.Common.{◌≡◌, ◌+◌, ◌*◌, ◌≤◌, true, length, sym, ap, ◌∙◌, subst, arith}
use Rattle.port_layout.specs.Chains.{chain, has}
use Rattle.port_layout.specs.Words.{word}
use Rattle.port_layout.specs.Ports.{Table, flags, taken, disabled, first_head, second_head}
use Rattle.port_layout.proofs.Facts.{table_of}
use Rattle.port_layout.proofs.Tables.{flag_at}
use Rattle.port_layout.proofs.Turns.{disabled-flags, disabled-table, half-small, half-holds}
use Rattle.ports.proofs.table.PortTable.unchain_link.Goals as goal

pub head-requires : goal.head-requires
head-requires c =
    let s = c.args.self.now in
    ((table_of s.n s.ends.now s.bytes.now s.table).joins c.args.i c.requires.within).first-is

pub take_out-requires : goal.take_out-requires
take_out-requires c =
    let s = c.args.self.now in
    let i = c.args.i in
    let t = table_of s.n s.ends.now s.bytes.now s.table in
    let j = t.joins i c.requires.within in
    let e = c.chains-chains.ensures in
    let on : has (2 * i + 1) (chain s.n (word s.bytes.now) (2 * length s.ends.now) (first_head s.ends.now i)) ≡ true =
    sym (flag_at s.n s.ends.now s.bytes.now i c.requires.within) ∙ c.requires.on in
    record {
      room = omega (arith, t.room);
      small = λ p l. let a = t.sound.small p (omega (arith, l, e)) in omega (arith, a, e);
      starts = omega (arith, j.first-is, j.first-in);
      named = (omega arith, omega (arith, c.requires.within));
      holds = cc;
    }

pub head-requires-2 : goal.head-requires-2
head-requires-2 c =
    let s = c.args.self.now in
    ((table_of s.n s.ends.now s.bytes.now s.table).joins c.args.i c.requires.within).second-is

pub take_out-requires-2 : goal.take_out-requires-2
take_out-requires-2 c =
    let s = c.args.self.now in
    let n = s.n in
    let es = s.ends.now in
    let bs = s.bytes.now in
    let i = c.args.i in
    let t = table_of n es bs s.table in
    let j = t.joins i c.requires.within in
    let e = c.chains-chains.ensures in
    let on = sym (flag_at n es bs i c.requires.within) ∙ c.requires.on in
    let half : c.take_out.new.bytes ≡ taken n (2 * length es) bs (2 * i + 1) (first_head es i) = cc in
    let there : has (2 * i + 2) (chain n (word c.take_out.new.bytes) (2 * length es) (second_head es i)) ≡ true =
    subst (λ z. has (2 * i + 2) (chain n (word z) (2 * length es) (second_head es i)) ≡ true) (sym half) (half-holds n es bs t i c.requires.within on) in
    record {
      room = omega (arith, t.room);
      small = λ p l.
          let a = half-small n es bs t i c.requires.within on p (omega (arith, l, e)) in
          let b : word c.take_out.new.bytes p ≤ 2 * length es = subst (λ z. word z p ≤ 2 * length es) (sym half) a in
          omega (arith, b, e);
      starts = omega (arith, j.second-is, j.second-in);
      named = (omega arith, omega (arith, c.requires.within));
      holds = cc;
    }

pub invariant_of-self : goal.invariant_of-self
invariant_of-self c =
    let s = c.args.self.now in
    let t = table_of s.n s.ends.now s.bytes.now s.table in
    let i = c.args.i in
    let on = sym (flag_at s.n s.ends.now s.bytes.now i c.requires.within) ∙ c.requires.on in
    let m = 2 * length s.ends.now in
    let half : c.take_out.new.bytes ≡ taken s.n m s.bytes.now (2 * i + 1) (first_head s.ends.now i) = cc in
    let rest : c.take_out-2.new.bytes ≡ taken s.n m c.take_out.new.bytes (2 * i + 2) (second_head s.ends.now i) = cc in
    let e : c.take_out-2.new.bytes ≡ disabled s.n s.ends.now s.bytes.now i = rest ∙ ap (λ t. taken s.n m t (2 * i + 2) (second_head s.ends.now i)) half in
    record { table = ∣ subst (Table s.n s.ends.now) (sym e) (disabled-table s.n s.ends.now s.bytes.now t i c.requires.within on) ∣₁ }

pub returns-clause-carrying : goal.returns-clause-carrying
returns-clause-carrying c =
    let s = c.args.self.now in
    let t = table_of s.n s.ends.now s.bytes.now s.table in
    let i = c.args.i in
    let on = sym (flag_at s.n s.ends.now s.bytes.now i c.requires.within) ∙ c.requires.on in
    let m = 2 * length s.ends.now in
    let half : c.take_out.new.bytes ≡ taken s.n m s.bytes.now (2 * i + 1) (first_head s.ends.now i) = cc in
    let rest : c.take_out-2.new.bytes ≡ taken s.n m c.take_out.new.bytes (2 * i + 2) (second_head s.ends.now i) = cc in
    let e : c.take_out-2.new.bytes ≡ disabled s.n s.ends.now s.bytes.now i = rest ∙ ap (λ t. taken s.n m t (2 * i + 2) (second_head s.ends.now i)) half in
    ap (flags s.n s.ends.now) e ∙ disabled-flags s.n s.ends.now s.bytes.now t i c.requires.within on
