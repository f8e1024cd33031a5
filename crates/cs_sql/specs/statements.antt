pub mod Tables
pub mod Steps
pub mod Found
pub mod Checked
