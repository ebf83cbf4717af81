pub mod Fitting
pub mod Turns
pub mod GivesBack
pub mod Saved
pub mod Starting
