pub mod Alike
mod Counts
