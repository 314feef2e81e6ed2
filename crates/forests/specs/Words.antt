-- Links in words, under the names that clauses above cite.
pub use Rattle.block_records.specs.Words.{link, no_link, link_of, link_in, links_in}
