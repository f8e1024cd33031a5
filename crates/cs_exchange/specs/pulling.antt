pub mod Calls
pub mod Pulls
pub mod Told
pub mod Merged
pub mod Listed
pub mod Steps
pub mod Laws
