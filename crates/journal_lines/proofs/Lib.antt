mod Calls
mod Clear
mod Digits
pub mod ReadBack
mod Whole
