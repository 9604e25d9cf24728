pub mod Runs
pub mod ByValue
