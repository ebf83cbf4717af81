pub mod Checkpoint
pub mod Layout
pub mod Opening
pub mod Refused
pub mod Snapshots
pub mod Standing
