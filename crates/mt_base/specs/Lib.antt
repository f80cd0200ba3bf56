pub mod Order
pub mod Options
pub mod Civil
pub mod Places
pub mod Sorted
pub mod Texts
