pub mod Endings
pub mod Faults
pub mod OverFiles
pub mod Streams
