mod Overs
pub mod Joined
pub mod Walks
pub mod Outgoing
pub mod Ends
pub mod Bounds
