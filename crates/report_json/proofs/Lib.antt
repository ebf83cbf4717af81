pub mod Plain
pub mod Bodies
pub mod Decoded
pub mod Keys
