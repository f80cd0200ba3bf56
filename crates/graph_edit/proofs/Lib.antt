pub mod ChoiceLemmas
pub mod ConnectionLemmas
pub mod RoomLemmas
pub mod ValueLemmas
