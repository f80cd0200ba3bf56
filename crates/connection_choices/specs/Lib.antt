pub mod Keeps
pub mod OverrideRows
pub mod StoredOverrides
