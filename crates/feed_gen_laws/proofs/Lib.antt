pub mod Calls
pub mod Clocks
pub mod Fields
pub mod HeldTables
mod LineTexts
pub mod Names
mod PlainTexts
pub mod Rows
pub mod Runs
pub mod SaidLines
pub mod Steps
pub mod Stops
pub mod Times
pub mod Timetable
pub mod Trips
pub mod Words
