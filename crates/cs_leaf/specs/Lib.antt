pub mod Entries
pub mod Edits
pub mod Changes
pub mod Laws
