pub mod Listed
pub mod Gathered
pub mod Answered
pub mod Exists
