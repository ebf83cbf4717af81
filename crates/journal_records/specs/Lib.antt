pub mod Grammar
pub mod Layout
pub mod Answers
pub mod Sayings
