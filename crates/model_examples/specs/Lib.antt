pub mod TwoTrains
pub mod Claims
