pub mod Laws
pub mod Widening
