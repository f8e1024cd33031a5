pub mod Standing
pub mod Faults
pub mod Pulls
pub mod Pushes
pub mod Laws
pub use Rattle.cs_replica.specs.Edited
pub use Rattle.cs_replica.specs.Holding
pub use Rattle.cs_exchange.specs.pulling.Calls
