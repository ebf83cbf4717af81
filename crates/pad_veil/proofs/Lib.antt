pub mod Spans
pub mod Veils
