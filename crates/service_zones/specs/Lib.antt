pub mod Bases
pub mod Changes
pub mod Faults
pub mod Zones
pub mod ZoneTexts
