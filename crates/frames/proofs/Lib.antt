pub mod Every
pub mod FrameRows
pub mod Unique
