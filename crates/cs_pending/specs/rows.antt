pub mod Rows
pub mod Steps
pub mod Listings
