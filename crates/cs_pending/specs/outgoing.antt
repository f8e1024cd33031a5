pub mod Outgoing
pub mod Steps
