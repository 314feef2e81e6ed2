pub mod Split
pub mod Number
pub mod Letter
pub mod Token
