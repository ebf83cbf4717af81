pub mod Ordered
pub mod AskedFits
pub mod Plays
