pub mod DeskLines
pub mod Questions
