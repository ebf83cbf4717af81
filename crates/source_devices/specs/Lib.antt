pub mod Telling
pub mod Frames
pub mod KeyStream
pub mod Forms
pub mod Sayings
