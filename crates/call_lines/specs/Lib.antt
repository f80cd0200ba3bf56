pub mod Calls
pub mod Edits
pub mod Lines
pub mod Linked
pub mod Loaded
pub mod Places
