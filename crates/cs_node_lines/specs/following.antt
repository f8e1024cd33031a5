pub mod Seen
pub mod Several
pub mod Requests
pub mod FollowStep
pub mod Endings
pub mod Laws
pub mod Steps
