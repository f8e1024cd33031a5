pub mod Confirmed
pub mod Cleared
pub mod Counted
pub mod Pushed
pub mod Exists
