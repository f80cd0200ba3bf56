pub mod Reading
pub mod Taking
pub mod ReaderStates
pub mod Inside
pub mod Replayed
pub mod Journals
