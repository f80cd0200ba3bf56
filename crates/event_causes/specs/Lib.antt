pub mod Asking
pub mod Following
