pub mod ToldLemmas
pub mod AsksLemmas
pub mod WorkingLemmas
pub mod HubLemmas
pub mod FollowingLemmas
