pub mod Runs
pub mod Ends
pub mod Jobs
pub mod Marks
