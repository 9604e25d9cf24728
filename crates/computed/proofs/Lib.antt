pub mod Claim
pub mod Choice
pub mod Entries
pub mod Lossless
