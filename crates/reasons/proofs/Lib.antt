pub mod KindCascade
pub mod LineCascade
pub mod Unique
