pub mod CatalogLemmas
pub mod CommandLemmas
pub mod FoundLemmas
pub mod WordLemmas
