pub mod Rooms
pub mod Sents
