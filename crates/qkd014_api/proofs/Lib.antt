pub mod Asking
pub mod Objects
pub mod Routing
pub mod Steps
pub mod Values
pub mod Chains
pub mod Cases
