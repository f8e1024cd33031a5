pub mod Answers
pub mod Faults
pub mod Files
pub mod Refusals
pub mod Tables
pub mod Told
pub mod Watched
