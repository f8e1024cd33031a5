pub mod Begins
pub mod Bodies
pub mod Decided
pub mod Logs
pub mod Seen
pub mod States
pub mod StoredLogs
pub mod Widens
