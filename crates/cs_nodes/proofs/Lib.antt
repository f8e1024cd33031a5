pub mod Fresh
pub mod SameRows
pub mod FollowingLemmas
pub mod PlansLemmas
pub mod BooksLemmas
