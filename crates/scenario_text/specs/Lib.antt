pub mod Words
pub mod Fields
pub mod Gives
pub mod Declaring
pub mod Commanding
pub mod Calling
pub mod Line
pub mod Text
