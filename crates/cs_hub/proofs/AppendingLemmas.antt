pub mod First
pub mod Tries
pub mod Batches
pub mod Found
