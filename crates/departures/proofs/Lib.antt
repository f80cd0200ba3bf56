pub mod CallLemmas
pub mod RowLemmas
pub mod ShownLemmas
