pub mod Batches
pub mod Planned
pub mod StoreLaws
