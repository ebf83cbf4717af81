pub mod Steps
pub mod Random
pub mod Up
pub mod Places
