use Rattle.std.proofs.Common.{◌≡◌, ◌++◌, length, drop, replicate, None, ap, rules}
use Rattle.fabrics.proofs.Blanks as blanks
use Rattle.port_layout.specs.Makes.{table_size, table_fault}
use Rattle.port_layout.proofs.Blanks.{granted, begins-table, begins-blank}
use Rattle.ports.proofs.table.PortTable.blank.Goals as goal

pub invariant_of-result-2 : goal.invariant_of-result-2
invariant_of-result-2 c =
    let n = c.args.n in
    let es = c.args.ends.now in
    let bs = c.args.bytes.now in
    let none : table_fault n es (length bs) ≡ None = blanks.granted _ tt c.in_default.ensures in
    let zeros : c.fill.new.self ≡ replicate (table_size n (length es)) 0 = search rules in
    record { table = ∣ begins-table n es bs (granted n es (length bs) none) _ (ap (λ l. l ++ drop (table_size n (length es)) bs) zeros) ∣₁ }

pub returns-clause-outcome : goal.returns-clause-outcome
returns-clause-outcome c =
    let n = c.args.n in
    let es = c.args.ends.now in
    let bs = c.args.bytes.now in
    let none : table_fault n es (length bs) ≡ None = blanks.granted _ tt c.in_default.ensures in
    let zeros : c.fill.new.self ≡ replicate (table_size n (length es)) 0 = search rules in
    begins-blank n es bs (granted n es (length bs) none) none _ (ap (λ l. l ++ drop (table_size n (length es)) bs) zeros)
