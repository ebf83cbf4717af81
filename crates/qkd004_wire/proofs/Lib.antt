pub mod Refused
pub mod Fitting
