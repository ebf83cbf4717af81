pub mod Fields
pub mod Front
pub mod Lines
pub mod Reading
pub mod Response
pub mod Sayings
