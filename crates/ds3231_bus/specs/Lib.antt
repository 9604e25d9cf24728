pub mod Answers
pub mod ByValue
