pub mod Blocks
pub mod Horner
