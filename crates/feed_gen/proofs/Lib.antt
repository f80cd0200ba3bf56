pub mod Bounds
pub mod Flushes
pub mod InputLines
mod LineBytes
mod LineTexts
pub mod RowLemmas
