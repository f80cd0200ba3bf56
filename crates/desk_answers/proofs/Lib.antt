pub mod Alike
mod Leaving
