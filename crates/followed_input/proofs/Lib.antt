pub mod Answered
pub mod Endings
pub mod LineCounts
pub mod Reading
