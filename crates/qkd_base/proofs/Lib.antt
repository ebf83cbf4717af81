pub mod Routes
pub mod Names
