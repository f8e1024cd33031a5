pub mod Tries
pub mod Allowed
pub mod Beside
pub mod Closing
