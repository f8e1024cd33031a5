pub mod Blob
pub mod Facts
pub mod Found
pub mod Laws
pub mod Places
pub mod Tasks
