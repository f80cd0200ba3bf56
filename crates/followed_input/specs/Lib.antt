pub mod Faults
pub mod Followed
pub mod FollowedJournals
