pub mod Reached
pub mod Certificates
pub mod Fronts
pub mod Scans
pub mod Rides
pub mod Checked
