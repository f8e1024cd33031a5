pub mod Maps
pub mod Tables
pub mod Whole
pub mod Values
