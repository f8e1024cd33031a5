pub mod Edited
pub mod Stood
mod Answered
mod Reopened
mod OneAnswer
mod AnswerSome
mod Stepped
mod OneEdit
mod OneEdits
mod EditCan
mod OnePush
mod PushCan
mod OneHeard
