pub mod Truth
pub mod Known
pub mod Room
pub mod Places
pub mod Ends
pub mod Life
pub mod Turns
