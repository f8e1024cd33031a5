pub mod Decided
pub mod Once
pub mod Existence
pub mod Widened
