pub mod Versions
pub mod OneLog
pub mod Appended
pub mod First
