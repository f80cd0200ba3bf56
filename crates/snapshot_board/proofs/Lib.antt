pub mod PrefixLemmas
pub mod Appending
pub mod StateLemmas
pub mod LookLemmas
pub mod PublishLemmas
pub mod RunLemmas
pub mod StepLemmas
pub mod WithinLemmas
