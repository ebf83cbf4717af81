pub mod Writes
pub mod Forms
pub mod Connections
pub mod Doors
pub mod Done
