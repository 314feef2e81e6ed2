pub mod Words
pub mod Union
pub mod Heap
pub mod Ranks
