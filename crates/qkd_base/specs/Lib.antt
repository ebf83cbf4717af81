pub mod Name
pub mod Lane
pub mod LaneBytes
pub mod Family
pub mod Route
pub mod RouteRoom
pub mod Faults
