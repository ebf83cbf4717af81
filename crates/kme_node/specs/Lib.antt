pub mod Holdings
pub mod Places
pub mod Ports
pub mod Replayed
