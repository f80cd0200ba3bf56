pub mod Boards
pub mod Following
