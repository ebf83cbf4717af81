pub mod Firsts
pub mod Index
pub mod Listed
pub mod Knowledge
