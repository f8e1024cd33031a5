pub mod Moved
pub mod Steps
pub mod Laws
