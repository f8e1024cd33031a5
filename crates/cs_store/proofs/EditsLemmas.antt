pub mod EditLaws
pub mod Growth
