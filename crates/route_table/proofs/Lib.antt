pub mod Walks
pub mod Layers
pub mod Tables
pub mod Least
