pub mod Ledger
pub mod Sayings
