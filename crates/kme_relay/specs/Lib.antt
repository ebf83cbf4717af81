pub mod Knows
pub mod Adds
pub mod Drafts
pub mod Keeps
pub mod UnderWay
pub mod Wanted
