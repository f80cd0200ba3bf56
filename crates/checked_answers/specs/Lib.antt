pub mod CheckedClaims
pub mod CheckedLines
pub mod CheckedQueries
