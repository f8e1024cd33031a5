pub mod KeyPlaces
pub mod Laws
pub mod Steps
