pub mod Shows
pub mod Versions
pub mod Later
pub mod Laws
