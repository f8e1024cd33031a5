pub mod told
pub mod asks
pub mod working
pub mod hub
pub mod following
