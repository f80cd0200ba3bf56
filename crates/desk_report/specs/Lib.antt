pub mod Chains
pub mod Departures
