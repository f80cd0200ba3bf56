pub mod Alike
mod Kept
