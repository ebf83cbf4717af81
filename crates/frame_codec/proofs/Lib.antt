pub mod FieldLaws
pub mod KindLaws
pub mod Writes
pub mod Reader
