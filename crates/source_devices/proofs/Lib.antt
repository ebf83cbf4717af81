pub mod Octets
pub mod Spans
pub mod Streams
pub mod Words
