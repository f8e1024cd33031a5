pub mod Books
pub mod Answers
pub mod Laws
pub mod Steps
