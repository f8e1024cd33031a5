pub mod Appended
pub mod Laws
pub mod Steps
pub use Rattle.cs_hub.specs.log_store.Shows
pub use Rattle.cs_hub.specs.log_store.Versions
