pub mod CatalogWords
pub mod CommandLine
pub mod Laws
pub mod TableWord
pub mod Wanted
