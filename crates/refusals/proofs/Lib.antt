pub mod Checks
pub mod Lossless
