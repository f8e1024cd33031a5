pub mod Goes
pub mod Told
pub mod Once
pub mod Opened
