pub mod Finding
pub mod Masking
pub mod Named
pub mod Needing
pub mod Parted
pub mod Seen
pub mod Settling
pub mod Taken
