mod Applied
mod Bytes
mod Cans
mod Decided
mod OnePlace
mod States
