pub mod Marks
pub mod Told
