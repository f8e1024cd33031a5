pub mod Asks
pub mod Ends
pub mod Held
pub mod Laws
pub mod Steps
pub mod Turns
