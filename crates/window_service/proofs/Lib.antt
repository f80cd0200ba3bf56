pub mod Words
pub mod Answered
pub mod Inputs
pub mod Networks
mod Numbers
pub mod SameSums
pub mod SumLemmas
pub mod Written
pub mod Stops
