pub mod Prompt
pub mod Calls
