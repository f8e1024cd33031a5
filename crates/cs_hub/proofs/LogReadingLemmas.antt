pub mod Found
pub mod Others
pub mod Caught
