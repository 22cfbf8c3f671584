pub mod Refusing
pub mod Depths
pub mod Unique
