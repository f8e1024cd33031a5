pub mod Edits
pub mod Pieces
pub mod Spots
