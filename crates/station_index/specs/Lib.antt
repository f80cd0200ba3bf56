pub mod Indexed
pub mod Loaded
pub mod Merged
pub mod Numbers
pub mod Places
pub mod Ranged
pub mod Slots
pub mod Stored
