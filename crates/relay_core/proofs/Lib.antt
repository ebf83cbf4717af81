pub mod Firsts
pub mod Names
pub mod Entered
pub mod Searched
pub mod Kept
pub mod Forgotten
pub mod Acknowledged
