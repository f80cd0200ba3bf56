mod Cuts
pub mod FewLines
mod Fills
mod Finish
pub mod Gives
pub mod LineFacts
pub mod Runs
mod Searches
mod Slices
