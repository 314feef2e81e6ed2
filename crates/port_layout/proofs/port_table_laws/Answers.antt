use Rattle.port_layout.proofs.Laws.{puts-in-front, takes_out, order-free}
use Rattle.port_layout.proofs.port_table_laws.Goals as goal

pub returns : goal.returns
returns c = record { front = puts-in-front; out = takes_out; order = order-free }
