pub mod EndedLemmas
pub mod HexText
pub mod LineLemmas
pub mod ReadLemmas
pub mod ServedLemmas
pub mod WriteLemmas
