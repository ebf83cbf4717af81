pub mod Forms
pub mod Codes
pub mod Outcome
pub mod Lines
pub mod Quiet
pub mod Call
pub mod Fresh
pub mod Program
