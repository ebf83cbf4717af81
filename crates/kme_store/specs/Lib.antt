pub mod Course
pub mod Drawing
pub mod Manager
pub mod Start
pub mod Refusals
pub mod Passed
