pub mod BegunAlike
pub mod Endings
pub mod Exits
pub mod Fitting
mod Failing
pub mod FollowEndings
pub mod FollowLoads
pub mod FollowReading
pub mod FollowStatuses
pub mod GenEndings
pub mod Made
pub mod MadeLines
pub mod Named
pub mod Restarting
pub mod SameTables
pub mod Tables
pub mod Statuses
pub mod Works
