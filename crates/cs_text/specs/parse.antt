pub mod Edits
pub mod Laws
pub mod Numbers
pub mod Texts
pub mod Values
pub mod Wishes
pub mod Words
