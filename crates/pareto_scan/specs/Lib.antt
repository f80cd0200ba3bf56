pub mod Riders
pub mod Levels
pub mod Bounds
pub mod Ridden
pub mod Passed
pub mod Traced
pub mod FrontRoom
