pub mod Holding
pub mod Renewing
pub mod Runs
pub mod Trains
pub mod Watching
