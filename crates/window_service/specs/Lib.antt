pub mod Whole
pub mod Runs
pub mod Sums
pub mod Summary
pub mod Summed
pub mod Received
pub mod SameSums
