pub mod Accepting
pub mod Beginnings
pub mod ByteLemmas
pub mod Counts
mod FirstLf
pub mod LineLemmas
pub mod MessageLines
pub mod Networks
pub mod Pieces
