pub mod Causes
pub mod Keeping
pub mod Opening
pub mod Laws
pub mod schema
pub mod statements
