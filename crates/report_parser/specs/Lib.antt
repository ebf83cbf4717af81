pub mod Runs
pub mod Fits
pub mod Walk
pub mod Rows
pub mod Misfit
