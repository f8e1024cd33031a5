pub mod Laws
pub mod Pending
pub mod Steps
