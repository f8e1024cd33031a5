pub mod Codes
pub mod Laws
pub mod Lent
pub mod NormalFormOf
pub mod Steps
pub mod UnfitChanges
