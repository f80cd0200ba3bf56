pub mod Sayings
pub mod Timetables
