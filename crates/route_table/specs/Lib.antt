pub mod Table
pub mod Walk
pub mod Layer
pub mod Sayings
