pub mod Asked
pub mod Looked
pub mod Several
pub mod Reading
