pub mod InOrder
pub mod Marked
pub mod Stored
