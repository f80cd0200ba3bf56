pub mod BaseLemmas
pub mod DateLemmas
pub mod LastLemmas
pub mod WeekdayLemmas
