pub mod Reporting
pub mod Going
pub mod Running
pub mod Counting
pub mod Answering
pub mod Commands
pub mod Sayings
