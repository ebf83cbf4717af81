pub mod Forms
pub mod Reasons
pub mod Check
pub mod Texts
pub mod Laws
