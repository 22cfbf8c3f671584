pub mod Feeding
pub mod Written
