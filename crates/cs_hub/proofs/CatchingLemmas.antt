pub mod Plain
pub mod Leads
pub mod Runs
pub mod Taken
