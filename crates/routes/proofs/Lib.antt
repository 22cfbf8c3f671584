pub mod Sizes
pub mod Digits
pub mod Given
pub mod Unique
