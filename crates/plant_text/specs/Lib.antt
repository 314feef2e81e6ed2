pub mod Body
pub mod Plant
