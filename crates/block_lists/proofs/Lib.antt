pub mod Words
pub mod PlaceLemmas
pub mod ShiftLemmas
pub mod CarryLemmas
pub mod MoveLemmas
pub mod EditLemmas
pub mod RangeLemmas
