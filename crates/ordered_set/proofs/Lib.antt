pub mod Between
pub mod Order
