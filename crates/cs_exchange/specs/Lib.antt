pub mod pushing
pub mod taking
pub mod pulling
