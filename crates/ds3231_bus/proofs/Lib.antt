pub mod Lossless
pub mod SoundLaws
pub mod TakingLaws
