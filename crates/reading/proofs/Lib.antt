pub mod Accepting
pub mod Unique
