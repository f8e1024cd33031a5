pub mod Combine
pub mod OneKey
