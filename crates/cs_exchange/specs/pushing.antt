pub mod Pushes
pub mod Batches
pub mod Steps
pub mod Laws
