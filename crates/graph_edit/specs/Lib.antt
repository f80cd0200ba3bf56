pub mod Choices
pub mod Values
