pub mod DumpLemmas
pub mod PlayingLemmas
pub mod ReadingLemmas
pub mod WorldLemmas
