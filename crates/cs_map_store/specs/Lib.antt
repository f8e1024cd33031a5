pub mod Slots
pub mod Packed
pub mod Steps
pub mod Leaves
pub mod Checked
