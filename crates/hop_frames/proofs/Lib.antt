pub mod Masks
pub mod Openings
pub mod Octets
pub mod Rejections
