pub mod Unique
pub mod Calls
pub mod Demands
pub mod Asked
