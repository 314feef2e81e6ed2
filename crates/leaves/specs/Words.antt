-- Moves and entries in words, under the names that clauses above cite.
pub use Rattle.block_records.specs.Words.{move, move_of, moves_in, exchange, exchange_of, entries_in}
