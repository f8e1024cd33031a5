pub mod Beside
pub mod Built
pub mod Found
pub mod Gathered
pub mod KeyBytes
pub mod KeyFronts
pub mod Lent
pub mod OneForm
