pub mod Marked
pub mod Waiting
pub mod Pooled
pub mod Stocked
pub mod Readied
pub mod Store
