pub mod Copied
pub mod Steps
