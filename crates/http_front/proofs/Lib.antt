pub mod Answering
pub mod Bodies
pub mod Heads
pub mod Lines
pub mod Meaning
pub mod Named
pub mod Once
