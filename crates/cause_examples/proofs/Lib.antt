pub mod ComputeChains
pub mod ComputeBoards
