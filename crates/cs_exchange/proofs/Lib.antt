pub mod PushingLemmas
pub mod TakingLemmas
pub mod PullingLemmas
