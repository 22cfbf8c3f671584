pub mod Delivering
pub mod Marks
pub mod Passing
pub mod Unique
