pub mod DeskOutput
pub mod Questions
