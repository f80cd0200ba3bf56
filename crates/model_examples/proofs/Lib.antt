pub mod Words
pub mod Compute
pub mod Rides
mod TwoTrainRides
