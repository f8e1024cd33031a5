pub mod Places
pub mod Fronts
pub mod Editing
pub mod Merges
pub mod Finding
pub mod Packing
