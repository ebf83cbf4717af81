pub mod Cuts
pub mod Ends
pub mod Reports
pub mod Counting
pub mod Inputs
pub mod Exact
