pub mod Lists
pub mod Numbering
pub mod SlotTimes
pub mod StoredSlots
pub mod Times
