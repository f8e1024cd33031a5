pub mod Entry
pub mod Laws
pub mod Log
pub mod Steps
pub mod Stored
pub mod Widens
pub use Rattle.cs_normal.specs.State
