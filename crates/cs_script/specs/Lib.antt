pub mod Dump
pub mod Endings
pub mod Events
pub mod Played
pub mod Scripts
pub mod Turns
