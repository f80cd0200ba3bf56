pub mod Alike
mod Judged
mod Leaving
