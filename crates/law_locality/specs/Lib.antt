pub mod Touched
pub mod Quiet
pub mod Sending
