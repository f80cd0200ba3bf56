pub mod LoadedDays
pub mod AtStops
