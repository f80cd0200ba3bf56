pub mod OrderLemmas
pub mod TimeLemmas
pub mod TripRowLemmas
