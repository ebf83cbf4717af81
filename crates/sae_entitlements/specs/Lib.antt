pub mod Pair
pub mod Grants
pub mod Rows
pub mod Sayings
