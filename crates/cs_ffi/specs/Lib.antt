pub mod Answers
pub mod CombinedAnswers
pub mod Laws
pub mod NormalAnswers
pub mod RebasedAnswers
pub mod SqliteAnswers
