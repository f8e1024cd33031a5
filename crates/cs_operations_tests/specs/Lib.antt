pub mod Tried
pub mod Answers
pub mod Closes
