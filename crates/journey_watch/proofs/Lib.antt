pub mod Changes
mod DueLemmas
mod HoldLemmas
mod RenewLemmas
mod RideLemmas
mod TrainLemmas
mod WatchLemmas
