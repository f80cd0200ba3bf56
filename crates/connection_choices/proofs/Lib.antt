pub mod Words
pub mod PlaceLemmas
pub mod OverrideOrders
pub mod KeepLemmas
