pub mod Written
pub mod Laying
pub mod Refusing
