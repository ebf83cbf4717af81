pub mod Keyed
pub mod Tallying
pub mod Handing
pub mod Chunks
pub mod Held
