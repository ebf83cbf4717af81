pub mod Words
pub mod Fields
pub mod Refusals
pub mod Rows
pub mod Gives
pub mod Tellable
