pub mod Numbers
pub mod Parts
pub mod NameTexts
pub mod WordLaws
pub mod Lists
pub mod Links
pub mod Lines
