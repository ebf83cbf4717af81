pub mod Parts
pub mod Spaceless
pub mod FieldLaws
pub mod RefusalLaws
pub mod FrameLaws
pub mod KeyLaws
pub mod LineLaws
