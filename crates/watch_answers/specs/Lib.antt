pub mod WatchedLines
pub mod WatchedMessages
pub mod WatchedQueries
