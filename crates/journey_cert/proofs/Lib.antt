pub mod CallLemmas
mod RideLemmas
mod ReachedLemmas
mod StopLemmas
