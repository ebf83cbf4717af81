pub mod Frame
pub mod Opening
pub mod Sealing
pub mod Sayings
