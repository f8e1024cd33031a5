pub mod Hub
pub mod Pushes
pub mod Widens
pub mod Judged
pub mod Laws
