pub mod Writing
pub mod AnswerText
pub mod Playing
pub mod EndOfInput
pub mod Unique
