pub mod Numbered
pub mod Turned
pub mod Onward
pub mod Paired
pub mod Ended
