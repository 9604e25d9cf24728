pub mod Lossless
pub mod Counts
pub mod Stores
