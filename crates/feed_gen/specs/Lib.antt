pub mod Laws
pub mod Lines
pub mod Tables
pub mod Texts
pub mod Trains
