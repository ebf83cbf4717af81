pub mod Inputs
pub mod Outcomes
pub mod Lined
pub mod Quietly
pub mod Numbered
pub mod Parts
