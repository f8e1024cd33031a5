pub mod Made
pub mod Takes
pub mod Steps
pub mod Laws
