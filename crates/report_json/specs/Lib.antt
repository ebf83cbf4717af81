pub mod Members
pub mod Words
pub mod Objects
pub mod Rounds
pub mod Lines
pub mod Reading
pub mod Laws
