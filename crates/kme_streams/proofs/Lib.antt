pub mod Deciding
pub mod Series
pub mod Overs
