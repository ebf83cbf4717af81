pub mod Holding
pub mod Candidates
