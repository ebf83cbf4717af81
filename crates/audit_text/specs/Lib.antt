pub mod Input
pub mod Verdicts
pub mod Laws
