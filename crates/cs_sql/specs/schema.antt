pub mod Schemas
pub mod Judged
pub mod Making
