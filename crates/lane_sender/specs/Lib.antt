pub mod Lane
pub mod Sending
