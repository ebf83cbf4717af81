pub mod Gates
pub mod Heads
pub mod Octets
pub mod Once
pub mod Openings
pub mod Whole
pub mod Runs
