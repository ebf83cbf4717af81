pub mod Keys
pub mod Differences
pub mod Laws
pub mod Words
pub mod KeyLines
pub mod Counts
pub mod TextLaws
pub mod Sayings
