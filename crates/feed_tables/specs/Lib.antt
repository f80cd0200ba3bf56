pub mod Calls
pub mod Lawful
