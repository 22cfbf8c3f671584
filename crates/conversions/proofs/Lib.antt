pub mod Judged
pub mod Found
pub mod Answered
pub mod Unique
