pub mod Alike
pub mod Accepting
