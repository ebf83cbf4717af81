pub mod Declared
pub mod Asked
pub mod Whole
pub mod RingNames
pub mod Growing
