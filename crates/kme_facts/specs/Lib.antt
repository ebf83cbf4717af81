pub mod Needs
pub mod Parts
pub mod Settled
pub mod Taken
