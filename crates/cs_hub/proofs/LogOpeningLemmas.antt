pub mod Many
pub mod Names
pub mod First
pub mod Listed
pub mod Counted
pub mod Whole
pub mod HubLaws
pub mod Followed
