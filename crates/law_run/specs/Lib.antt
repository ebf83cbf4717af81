pub mod Nothing
pub mod Benched
pub mod Seen
pub mod Handed
pub mod Kinds
pub mod Ledgers
