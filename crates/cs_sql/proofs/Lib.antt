pub mod CauseLemmas
pub mod Whole
pub mod OpeningLemmas
pub mod OneSchema
pub mod SchemaLemmas
pub mod StatementsLemmas
