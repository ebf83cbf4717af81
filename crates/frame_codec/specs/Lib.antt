pub mod Payload
pub mod Reading
pub mod Writing
pub mod Sayings
