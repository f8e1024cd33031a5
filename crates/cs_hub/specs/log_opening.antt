pub mod Owner
pub mod Opens
pub mod Laws
pub mod Steps
