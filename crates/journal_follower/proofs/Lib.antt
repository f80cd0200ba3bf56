pub mod Feeding
pub mod LaterLines
pub mod Looked
pub mod TakenWires
pub mod WholeJournals
