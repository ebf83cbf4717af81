pub mod LineEnds
pub mod Reading
pub mod Speaking
pub mod Serving
pub mod Asking
