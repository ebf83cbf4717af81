pub mod FieldLaws
pub mod FactLaws
pub mod RecordLaws
pub mod ItemLaws
pub mod Groups
pub mod Bodies
pub mod Texts
pub mod Loops
