pub mod Told
pub mod Dump
pub mod Clash
