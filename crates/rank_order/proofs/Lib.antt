pub mod GatherLemmas
pub mod HeapLemmas
pub mod InsertLemmas
pub mod OrderLemmas
pub mod RetainLemmas
pub mod RoomLemmas
