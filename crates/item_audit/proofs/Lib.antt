pub mod HandedNames
