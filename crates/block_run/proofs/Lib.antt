pub mod Chaining
pub mod Spread
pub mod Lasts
pub mod Whole
