pub mod Commands
pub mod Words
pub mod Held
pub mod GenWords
pub mod Defaults
