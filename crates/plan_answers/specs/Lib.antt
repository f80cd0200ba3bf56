pub mod PlannedQueries
pub mod PlannedLines
