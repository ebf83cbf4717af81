pub mod Lanes
pub mod Sayings
