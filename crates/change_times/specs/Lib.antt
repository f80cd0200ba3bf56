pub mod ChangeTables
pub mod Cuts
pub mod Kept
pub mod Listed
pub mod Near
pub mod Reach
pub mod Stored
