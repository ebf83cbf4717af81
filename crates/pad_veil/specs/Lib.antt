pub mod Faults
pub mod Veil
pub mod Sayings
