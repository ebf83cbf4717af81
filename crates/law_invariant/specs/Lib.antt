pub mod Only
pub mod May
pub mod HandedName
