pub mod Table
pub mod Parents
pub mod Greedy
pub mod Rooted
pub mod Sinking
pub mod Indexing
pub mod Order
pub mod InOrder
