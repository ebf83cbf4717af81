pub mod Spelling
pub mod Readable
pub mod Form
pub mod Spelled
