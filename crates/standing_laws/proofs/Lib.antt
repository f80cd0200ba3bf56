pub mod Bare
pub mod Begun
pub mod CallsAlike
pub mod RerouteAlike
pub mod Unchanged
pub mod Untouched
