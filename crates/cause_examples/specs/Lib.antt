pub mod Links
pub mod BoardRows
