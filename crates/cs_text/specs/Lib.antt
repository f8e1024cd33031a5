pub mod Text
pub mod parse
