pub mod Committed
pub mod OnePosition
