pub mod Entries
pub mod Majority
pub mod Counts
pub mod Unique
