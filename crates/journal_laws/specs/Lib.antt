pub mod Heads
pub mod Journaled
pub mod Parts
