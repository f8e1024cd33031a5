pub mod EndingLemmas
pub mod HubLemmas
